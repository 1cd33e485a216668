-- The range of a solid's coordinates.
use Rattle.std.specs.Prelude.{Bool, ◌&&◌, nat_le, unsigned_abs}
use Rattle.scad_geom.specs.declared.point3.Pt3.{Pt3}
use Rattle.scad_geom.specs.Limits.{point_limit}

-- no coordinate of the point is greater in size than the limit
abbrev pub is_in_range : Pt3 → Bool
is_in_range p = nat_le (unsigned_abs p.x) point_limit && (nat_le (unsigned_abs p.y) point_limit && nat_le (unsigned_abs p.z) point_limit)
