use Rattle.std.proofs.Common.{◌≡◌, ◌++◌, drop, filter}
use Rattle.slice_bundles.specs.Bundles.{edge_at}
use Rattle.slice_border.specs.Pieces.{is_flat_at}
use Rattle.slice_bool.proofs.near.flats.Given as goal

abbrev pub invariant-numbers : goal.invariant-numbers
invariant-numbers l = l.out.items ++ filter (λ k. is_flat_at (edge_at l.edges k) l.at) (drop l.k-index l.numbers)
    ≡ filter (λ k. is_flat_at (edge_at l.edges k) l.at) l.numbers
