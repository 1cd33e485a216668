use Rattle.std.proofs.Common.{◌-◌, length}
use Rattle.std.specs.List.{AllByRecursion}
use Rattle.slice_sweep.specs.Lows.{AreLow}
use Rattle.slice_sweep.specs.Mending.{AreMendedTo, KeepTimes}
use Rattle.slice_sweep.specs.Places.{StartsKeyless, ArePlacedTo}
use Rattle.slice_sweep.proofs.mend.mend.Given as goal

abbrev pub invariant-places : goal.invariant-places
invariant-places l = record {
  mended : AreMendedTo l.step.edges.now l.step.lower.now l.step.upper.now l.place l.strands.items;
  placed : AllByRecursion (StartsKeyless l.step.edges.now l.step.lower.now) l.fn.strands.items
      → ArePlacedTo l.step.edges.now l.step.lower.now l.place l.fn.strands.items l.strands.items l.changes.items;
  low : AreLow l.lows.items l.strands.items;
  numbers : KeepTimes l.step.edges.now l.step.lower.now l.step.upper.now l.fn.strands.items l.strands.items;
}

abbrev pub decreases-places : goal.decreases-places
decreases-places l = length l.strands.items - l.place
