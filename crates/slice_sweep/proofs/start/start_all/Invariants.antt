use Rattle.std.proofs.Common.{◌≡◌, ℕ, ◌+◌, true, take, All}
use Rattle.std.specs.List.{AllByRecursion}
use Rattle.slice_bundles.specs.Times.{times}
use Rattle.slice_bundles.specs.Bundles.{edge_at, reaches}
use Rattle.slice_sweep.specs.Strands.{bundles_of, numbers_in, AreWaiting}
use Rattle.slice_sweep.specs.Lows.{AreLow}
use Rattle.slice_sweep.specs.Places.{came_from_below, StartsKeyless, StartsAt}
use Rattle.slice_sweep.proofs.start.start_all.Given as goal

abbrev pub invariant-numbers : goal.invariant-numbers
invariant-numbers l = record {
  low : AreLow l.fn.lows.items l.fn.strands.items → AreLow l.lows.items l.strands.items;
  waiting : AreWaiting l.edges l.at l.strands.items;
  numbers : (k : ℕ) → reaches (edge_at l.edges k) l.at l.at ≡ true
      → times k (numbers_in l.strands.items)
      ≡ times k (numbers_in l.fn.strands.items) + times k (take l.k-index l.numbers);
  below : All (StartsAt l.edges l.at) l.numbers
      → came_from_below l.edges l.at (bundles_of l.strands.items)
      ≡ came_from_below l.edges l.at (bundles_of l.fn.strands.items);
  keyless : AllByRecursion (StartsKeyless l.edges l.at) l.fn.strands.items
      → AllByRecursion (StartsKeyless l.edges l.at) l.strands.items;
}
