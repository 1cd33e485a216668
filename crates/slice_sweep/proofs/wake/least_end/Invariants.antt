use Rattle.std.proofs.Common.{take}
use lib.Signed.{◌≤ℤ◌}
use Rattle.std.specs.List.{All}
use Rattle.scad_geom.specs.Line.{high}
use Rattle.slice_bundles.specs.Bundles.{edge_at}
use Rattle.slice_sweep.proofs.wake.least_end.Given as goal

abbrev pub invariant-numbers : goal.invariant-numbers
invariant-numbers l = All (λ k. l.least ≤ℤ (high (edge_at l.edges k)).y) (take l.k-index l.numbers)
