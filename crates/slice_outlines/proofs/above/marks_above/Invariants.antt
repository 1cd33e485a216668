use Rattle.std.proofs.Common.{◌≤◌, drop, length}
use Rattle.slice_sweep.specs.Front.{bundles_in}
use Rattle.slice_outlines.specs.Above.{IsTold}
use Rattle.slice_outlines.proofs.Taking.{AreTakenTo}
use Rattle.slice_outlines.proofs.above.marks_above.Given as goal

abbrev pub invariant-changes : goal.invariant-changes
invariant-changes l = record {
  within : l.passed ≤ length l.below;
  taken : (t : IsTold l.below (bundles_in l.front) l.changes)
      → AreTakenTo l.changes t.groups l.below (bundles_in l.front)
      (drop l.change-index l.changes) l.passed l.above.items;
}
