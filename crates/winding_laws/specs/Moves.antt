-- Segments whose ends are moved, each to a point near to it.
use Rattle.std.specs.Prelude.{◌≡◌, true, Bool, List, map, pos, ◌<ℤ◌, All}
use Rattle.scad_geom.specs.Point.{Point, is_same_point}
use Rattle.scad_geom.specs.Segment.{Segment}
use Rattle.scad_geom.specs.Winding.{wind_by}
use Rattle.scad_geom.specs.Balance.{IsBalanced}
use Rattle.winding_laws.specs.Region.{HalfPlane, HoldsOrigin}
use Rattle.winding_laws.specs.Nearness.{IsPoint, IsNear, IsProper, IsFarSegment}

-- a move takes points to points, and a point to one point, over whatever divisors it is written
pub record IsMove (r : Point → Point) : Type 0 where
  pub positive : (p : Point) → IsPoint p → pos 0 <ℤ (r p).d
  pub same : (p q : Point) → IsPoint p → IsPoint q → is_same_point p q ≡ true
      → is_same_point (r p) (r q) ≡ true

-- each point is near to where it is moved
pub record MovesWithin (region : List HalfPlane) (r : Point → Point) : Type 0 where
  pub move : IsMove r
  pub near : (p : Point) → IsPoint p → IsNear region (r p) p

-- a segment with both ends moved
abbrev pub moved : (Point → Point) → Segment → Segment
moved r s = record { from = r s.from; to = r s.to }

-- ---- the laws
-- Moving the ends of a balanced list keeps it balanced.
abbrev pub MovesKeepBalance : Type 0
MovesKeepBalance = (r : Point → Point) → IsMove r → (ss : List Segment) → All IsProper ss → IsBalanced ss
    → IsBalanced (map (moved r) ss)

-- Moving the ends of a balanced list, each to a point to which it is near, keeps the winding hard by each point to
-- which no
-- point of a segment is near.
abbrev pub MovesKeepWinding : Type 0
MovesKeepWinding =
    (region : List HalfPlane) → HoldsOrigin region → (above right : Bool) (q : Point) → IsPoint q
    → (r : Point → Point) → MovesWithin region r
    → (ss : List Segment) → IsBalanced ss → All (IsFarSegment region q) ss
    → wind_by above right q (map (moved r) ss) ≡ wind_by above right q ss
