use Rattle.std.proofs.Common.{◌≡◌, ◌+◌, drop}
use Rattle.text_scan.specs.Marks.{first_at}
use Rattle.text_scan.proofs.first_at.Given as goal

abbrev pub invariant-loop-i : goal.invariant-loop-i
invariant-loop-i l = first_at l.mark l.bytes ≡ l.i + first_at l.mark (drop l.i l.bytes)
