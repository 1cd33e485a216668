use Rattle.std.proofs.Common.{◌≡◌, ◌++◌, drop}
use Rattle.std.specs.List.{list_all}
use Rattle.scad_geom.specs.PointRange.{is_in_range}
use Rattle.scad_extrude.specs.Revolution.{turned_ring}
use Rattle.scad_extrude.proofs.turns.turn.Given as goal

-- the points so far are in range, and with those left they are all
abbrev pub invariant-points : goal.invariant-points
invariant-points l = record {
  made : l.turn.items ++ turned_ring l.m l.cosine l.sine (drop l.point-index l.ring) ≡ turned_ring l.m l.cosine l.sine
      l.ring;
  ranged : list_all is_in_range (turned_ring l.m l.cosine l.sine l.ring) ≡ list_all is_in_range
      (turned_ring l.m l.cosine l.sine (drop l.point-index l.ring));
}
