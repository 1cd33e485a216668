-- Places where balanced segments have one winding number.
use Rattle.std.specs.Prelude.{◌≡◌, Bool, List, ℤ, All}
use Rattle.scad_geom.specs.Point.{Point}
use Rattle.scad_geom.specs.Segment.{Segment}
use Rattle.scad_geom.specs.Winding.{wind_by, wind}
use Rattle.scad_geom.specs.Balance.{IsBalanced}
use Rattle.scad_geom.specs.Near.{IsClose}
use Rattle.winding_laws.specs.Region.{HalfPlane, HoldsOrigin}
use Rattle.winding_laws.specs.Nearness.{IsPoint, IsNear, IsFarSegment, IsClearSegment}

-- ---- the laws
-- A balanced list of which no point is near to a centre winds alike round the points that are.
abbrev pub RegionsHaveOneWinding : Type 0
RegionsHaveOneWinding =
    (region : List HalfPlane) (above right : Bool) (c q p : Point) → IsPoint c → IsPoint q → IsPoint p
    → IsNear region c q → IsNear region c p
    → (ss : List Segment) → IsBalanced ss → All (IsFarSegment region c) ss
    → wind_by above right p ss ≡ wind_by above right q ss

-- So it does throughout a square that no segment meets.
abbrev pub SquaresHaveOneWinding : Type 0
SquaresHaveOneWinding =
    (h : ℤ) (above right : Bool) (c q p : Point) → IsPoint c → IsPoint q → IsPoint p → IsClose h c q
    → IsClose h c p
    → (ss : List Segment) → IsBalanced ss → All (IsClearSegment h c) ss
    → wind_by above right p ss ≡ wind_by above right q ss

-- Round a point that is far from a balanced list its winding number is one, hard by the point on each side.
abbrev pub FormsWindAlike : Type 0
FormsWindAlike =
    (region : List HalfPlane) → HoldsOrigin region → (above right : Bool) (q : Point) → IsPoint q
    → (ss : List Segment) → IsBalanced ss → All (IsFarSegment region q) ss
    → wind_by above right q ss ≡ wind q ss
