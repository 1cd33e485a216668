use Rattle.std.proofs.Common.{◌≡◌, ◌++◌, drop}
use Rattle.std.specs.List.{list_all}
use Rattle.scad_geom.specs.PointRange.{is_in_range}
use Rattle.scad_shapes.specs.Polyhedron.{placed_points}
use Rattle.scad_shapes.proofs.polyhedra.place.Given as goal

-- the points so far are in range, and with those left they are all
abbrev pub invariant-points : goal.invariant-points
invariant-points l = record {
  made : l.placed.items ++ placed_points l.m (drop l.point-index l.points) ≡ placed_points l.m l.points;
  ranged : list_all is_in_range (placed_points l.m l.points) ≡ list_all is_in_range
      (placed_points l.m (drop l.point-index l.points));
}
