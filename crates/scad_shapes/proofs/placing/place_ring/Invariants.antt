use Rattle.std.proofs.Common.{◌≡◌, ◌++◌, drop}
use Rattle.std.specs.List.{list_all}
use Rattle.scad_geom.specs.PointRange.{is_in_range}
use Rattle.scad_shapes.specs.Rings.{placed_ring}
use Rattle.scad_shapes.proofs.placing.place_ring.Given as goal

-- the points so far are in range, and with those left they are all
abbrev pub invariant-points : goal.invariant-points
invariant-points l = record {
  made : l.ring.items ++ placed_ring l.m l.z (drop l.point-index l.outline) ≡ placed_ring l.m l.z l.outline;
  ranged : list_all is_in_range (placed_ring l.m l.z l.outline) ≡ list_all is_in_range
      (placed_ring l.m l.z (drop l.point-index l.outline));
}
