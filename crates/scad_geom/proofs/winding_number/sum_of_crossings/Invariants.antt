use Rattle.std.proofs.Common.{◌≡◌, ◌≤◌, ◌+ℤ◌, drop, unsigned_abs}
use Rattle.scad_geom.specs.Point.{halves}
use Rattle.scad_geom.specs.Segment.{segments}
use Rattle.scad_geom.specs.Winding.{wind}
use Rattle.scad_geom.proofs.winding_number.sum_of_crossings.Given as goal

-- the sum so far has one turn of at most 1 for each edge, and what is left completes it
abbrev pub invariant-edges : goal.invariant-edges
invariant-edges l = record {
  small : unsigned_abs l.sum ≤ l.edge-index;
  sum : wind (halves l.x l.y) (segments l.edges) ≡ l.sum +ℤ wind (halves l.x l.y)
      (segments (drop l.edge-index l.edges));
}
