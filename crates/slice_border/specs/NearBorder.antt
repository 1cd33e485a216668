-- The outlines of a shape lie near to its border.
use Rattle.std.specs.Prelude.{List, flat_map, pos, ◌<ℤ◌, All}
use Rattle.scad_geom.specs.declared.point.Pt.{Pt}
use Rattle.scad_geom.specs.declared.point.Edge.{Edge}
use Rattle.scad_geom.specs.declared.level.LeafEdge.{LeafEdge}
use Rattle.scad_geom.specs.declared.shape.Shape.{Shape}
use Rattle.scad_geom.specs.Point.{Point, whole}
use Rattle.scad_geom.specs.Loop.{sides}
use Rattle.winding_laws.specs.Points.{IsOn, IsWithinOne}
use Rattle.slice_border.specs.BorderPoints.{IsBorderPoint}
use Rattle.slice_border.specs.Outlines.{AreOutlinesOf}

-- a border point lies within one of a point
pub record HasBorderNear (edges : List LeafEdge) (shape : Shape) (q : Point) : Type 0 where
  pub border : Point
  pub positive : pos 0 <ℤ border.d
  pub is_border : IsBorderPoint edges shape border
  pub near : IsWithinOne q border

-- each point of an edge has a border point within one of it
abbrev pub IsNearBorder : List LeafEdge → Shape → Edge → Type 0
IsNearBorder edges shape e = (p : Point) → pos 0 <ℤ p.d → IsOn (whole e.a) (whole e.b) p
    → HasBorderNear edges shape p

-- so it is of each side of outlines
abbrev pub AreNearBorder : List LeafEdge → Shape → List (List Pt) → Type 0
AreNearBorder edges shape outlines = All (IsNearBorder edges shape) (flat_map sides outlines)

-- ---- the law
-- Each point of each side of a shape's outlines lies less than one micrometre along both axes from a border point.
abbrev pub OutlinesAreNearBorder : Type 0
OutlinesAreNearBorder = (es : List LeafEdge) (shape : Shape) (outlines : List (List Pt))
    → AreOutlinesOf es shape outlines → AreNearBorder es shape outlines
