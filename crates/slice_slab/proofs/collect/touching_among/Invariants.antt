use Rattle.std.proofs.Common.{◌≡◌, ◌++◌, drop, filter}
use Rattle.slice_bundles.specs.Bundles.{edge_at}
use Rattle.slice_bundles.specs.Touching.{touches}
use Rattle.slice_slab.proofs.collect.touching_among.Given as goal

abbrev pub invariant-numbers : goal.invariant-numbers
invariant-numbers l = l.out.items ++ filter (λ k. touches (edge_at l.edges k) l.at) (drop l.k-index l.numbers)
    ≡ filter (λ k. touches (edge_at l.edges k) l.at) l.numbers
