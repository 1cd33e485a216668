-- Segments with rounded ends: edges between whole points.
use Rattle.std.specs.Prelude.{◌≡◌, Bool, List, map, filter, pos, All}
use Rattle.scad_geom.specs.declared.point.Edge.{Edge}
use Rattle.scad_geom.specs.Point.{Point, whole}
use Rattle.scad_geom.specs.Segment.{Segment, segments}
use Rattle.scad_geom.specs.Winding.{wind_by}
use Rattle.scad_geom.specs.Balance.{IsBalanced}
use Rattle.scad_geom.specs.Near.{IsClose}
use Rattle.winding_laws.specs.Nearness.{IsPoint, IsProper, IsClearSegment}
use Rattle.winding_laws.specs.Moves.{IsMove}
use Rattle.winding_laws.specs.Edges.{rounded, rounded_edge, has_length}

-- ---- the laws
-- Rounding takes a point to one point, and by at most one half along each axis.
pub record RoundingMovesByHalves : Type 0 where
  pub move : IsMove (λ p. whole (rounded p))
  pub close : (p : Point) → IsPoint p → IsClose (pos 1) (whole (rounded p)) p

-- Rounding the ends of a balanced list gives a balanced list of edges.
abbrev pub RoundingKeepsBalance : Type 0
RoundingKeepsBalance = (ss : List Segment) → All IsProper ss → IsBalanced ss
    → IsBalanced (segments (map rounded_edge ss))

-- It keeps the winding hard by each point of which no point of a segment lies within one half along both axes.
abbrev pub RoundingKeepsWinding : Type 0
RoundingKeepsWinding =
    (above right : Bool) (q : Point) → IsPoint q → (ss : List Segment) → IsBalanced ss
    → All (IsClearSegment (pos 1) q) ss
    → wind_by above right q (segments (map rounded_edge ss)) ≡ wind_by above right q ss

-- Edges whose ends coincide may be left out.
abbrev pub LengthsKeepBalance : Type 0
LengthsKeepBalance = (es : List Edge) → IsBalanced (segments es) → IsBalanced (segments (filter has_length es))

abbrev pub LengthsKeepWinding : Type 0
LengthsKeepWinding =
    (es : List Edge) (above right : Bool) (q : Point) → IsPoint q
    → wind_by above right q (segments (filter has_length es)) ≡ wind_by above right q (segments es)
