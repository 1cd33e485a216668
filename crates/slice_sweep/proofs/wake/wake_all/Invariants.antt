use Rattle.std.proofs.Common.{◌≡◌, List, ℤ}
use Rattle.slice_sweep.specs.Strands.{bundles_of}
use Rattle.slice_sweep.specs.Lows.{AreLow}
use Rattle.slice_sweep.specs.Mending.{AreOrdered}
use Rattle.slice_sweep.proofs.wake.wake_all.Given as goal

abbrev pub invariant-changes : goal.invariant-changes
invariant-changes l = record {
  ordered : AreOrdered l.step.edges.now l.step.lower.now l.step.upper.now l.strands.items;
  bundles : bundles_of l.strands.items ≡ bundles_of l.fn.strands.items;
  low : (lows : List ℤ) → AreLow lows l.fn.strands.items → AreLow lows l.strands.items;
}
