use Rattle.std.proofs.Common.{◌≡◌, ◌++◌, drop}
use Rattle.slice_border.specs.Pieces.{spots_at}
use Rattle.slice_border.specs.Stops.{spots_in}
use Rattle.slice_bool.proofs.stops.spots.Given as goal

abbrev pub invariant-edges : goal.invariant-edges
invariant-edges l = spots_in l.out.items ++ spots_at (drop l.e-index l.edges) l.at ≡ spots_at l.edges l.at
