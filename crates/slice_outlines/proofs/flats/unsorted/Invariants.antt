use Rattle.std.proofs.Common.{◌≡◌, ◌++◌, drop, All}
use Rattle.slice_outlines.specs.Flats.{numbers_of, flat_numbers, IsFlatOf}
use Rattle.slice_outlines.proofs.flats.unsorted.Given as goal

abbrev pub invariant-edges : goal.invariant-edges
invariant-edges l = record {
  all : numbers_of l.out.items ++ flat_numbers l.i (drop l.i l.edges) ≡ flat_numbers 0 l.edges;
  each : All (IsFlatOf l.edges) l.out.items;
}
