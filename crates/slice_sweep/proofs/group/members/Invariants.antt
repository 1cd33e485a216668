use Rattle.std.proofs.Common.{◌≡◌, ◌++◌, drop}
use Rattle.slice_sweep.specs.Strands.{numbers_in}
use Rattle.slice_sweep.proofs.group.members.Given as goal

abbrev pub invariant-strands : goal.invariant-strands
invariant-strands l = l.numbers.items ++ numbers_in (drop l.i l.strands) ≡ numbers_in (drop l.from l.strands)
