use Rattle.std.proofs.Common.{◌≤◌, ◌-◌, take, drop, All}
use Rattle.slice_outlines.specs.Along.{LiesRightOf}
use Rattle.slice_outlines.proofs.stretch.strands_to.Given as goal

abbrev pub invariant-strands : goal.invariant-strands
invariant-strands l = record {
  from : l.from ≤ l.i;
  to : l.i ≤ l.to;
  passed : All (λ m. LiesRightOf l.height l.s m → ⊥) (take (l.i - l.from) (drop l.from l.marks));
}

abbrev pub decreases-strands : goal.decreases-strands
decreases-strands l = l.to - l.i
