use Rattle.std.proofs.Common.{◌≡◌, ◌++◌, drop}
use Rattle.std.specs.List.{All}
use Rattle.slice_bundles.specs.Bundles.{reaching}
use Rattle.slice_slab.specs.Passages.{numbers_of, IsPassageOf}
use Rattle.slice_slab.proofs.collect.passages.Given as goal

abbrev pub invariant-edges : goal.invariant-edges
invariant-edges l = record {
  numbers : numbers_of l.out.items ++ reaching l.i (drop l.i l.edges) l.lower l.upper
      ≡ reaching 0 l.edges l.lower l.upper;
  passages : All (IsPassageOf l.edges l.lower) l.out.items;
}
