use Rattle.std.proofs.Common.{◌≡◌, ◌++◌, drop, filter, not}
use Rattle.std.specs.List.{All}
use Rattle.slice_bundles.specs.Bundles.{edge_at, reaches}
use Rattle.slice_slab.specs.Passages.{numbers_of, IsPassageOf}
use Rattle.slice_slab.proofs.collect.passages_among.Given as goal

abbrev pub invariant-numbers : goal.invariant-numbers
invariant-numbers l = record {
  numbers : numbers_of l.out.items ++ filter (λ k. reaches (edge_at l.edges k) l.lower l.upper)
      (drop l.k-index l.numbers)
      ≡ filter (λ k. reaches (edge_at l.edges k) l.lower l.upper) l.numbers;
  passages : All (IsPassageOf l.edges l.lower) l.out.items;
  others : l.others.items ++ filter (λ k. not (reaches (edge_at l.edges k) l.lower l.upper)) (drop l.k-index l.numbers)
      ≡ l.fn.others.items ++ filter (λ k. not (reaches (edge_at l.edges k) l.lower l.upper)) l.numbers;
}
