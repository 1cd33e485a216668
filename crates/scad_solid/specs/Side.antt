-- Directed sides of triangles, and when two are the same.
use Rattle.std.specs.Prelude.{Bool, ◌&&◌}
use Rattle.std.specs.Ordering.{int_eq}
use Rattle.scad_geom.specs.declared.point3.Pt3.{Pt3}
use Rattle.scad_solid.specs.declared.side.Side.{Side}

-- the side run the other way
abbrev pub reversed : Side → Side
reversed s = record { from = s.to; to = s.from }

-- two points are the same
abbrev pub same_point : Pt3 → Pt3 → Bool
same_point p q = int_eq p.x q.x && (int_eq p.y q.y && int_eq p.z q.z)

-- two directed sides are the same
abbrev pub same_side : Side → Side → Bool
same_side s t = same_point s.from t.from && same_point s.to t.to
