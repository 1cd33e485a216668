use Rattle.std.proofs.Common.{◌≡◌, ◌++◌, drop}
use Rattle.plan_support.specs.Lines.{kept_rows}
use Rattle.plan_support.proofs.cover.rows_of.Given as goal

abbrev pub invariant-lines : goal.invariant-lines
invariant-lines l = l.rows ++ kept_rows l.layer (drop l.i l.heights) (drop l.i l.lines)
    ≡ kept_rows l.layer l.heights l.lines
