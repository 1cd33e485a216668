use Rattle.std.proofs.Common.{◌≡◌, min, take}
use Rattle.std.specs.Prelude.{sum_by}
use Rattle.plan_support.specs.declared.line.Line.{Line}
use Rattle.plan_support.specs.Lines.{greatest_count}
use Rattle.plan_support.proofs.cover.count_of.Given as goal

abbrev pub invariant-lines : goal.invariant-lines
invariant-lines l = l.count ≡ min (sum_by (λ (m : Line). m.count) (take l.line-index l.lines)) greatest_count
