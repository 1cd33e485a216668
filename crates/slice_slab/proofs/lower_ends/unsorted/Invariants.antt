use Rattle.std.proofs.Common.{◌≡◌, ◌++◌, drop}
use Rattle.slice_bundles.specs.Starts.{AreStarts, numbers_of, numbers_from, all_numbers}
use Rattle.slice_slab.proofs.lower_ends.unsorted.Given as goal

abbrev pub invariant-edges : goal.invariant-edges
invariant-edges l = record {
  all : numbers_of l.out.items ++ numbers_from l.i (drop l.i l.edges) ≡ all_numbers l.edges;
  starts : AreStarts l.edges l.out.items;
}
