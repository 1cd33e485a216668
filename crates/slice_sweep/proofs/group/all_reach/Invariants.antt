use Rattle.std.proofs.Common.{◌≡◌, true, take}
use lib.IntN.{◌*ℤ◌}
use Rattle.std.specs.Prelude.{int_le}
use Rattle.std.specs.List.{All}
use Rattle.scad_geom.specs.Line.{high}
use Rattle.slice_bundles.specs.Bundles.{edge_at}
use Rattle.slice_sweep.proofs.group.all_reach.Given as goal

abbrev pub invariant-numbers : goal.invariant-numbers
invariant-numbers l = All (λ k. int_le l.upper.n ((high (edge_at l.edges k)).y *ℤ l.upper.d) ≡ true)
    (take l.k-index l.numbers)
