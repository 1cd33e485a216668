-- The outlines of a shape hold what the shape holds, away from its edges.
use Rattle.std.specs.Prelude.{◌≡◌, Bool, List, flat_map, ℤ, pos, ◌<ℤ◌, All}
use Rattle.scad_geom.specs.declared.point.Pt.{Pt}
use Rattle.scad_geom.specs.declared.level.LeafEdge.{LeafEdge}
use Rattle.scad_geom.specs.declared.shape.Shape.{Shape}
use Rattle.scad_geom.specs.Point.{Point, whole}
use Rattle.scad_geom.specs.Half.{centre}
use Rattle.scad_geom.specs.Segment.{segments}
use Rattle.scad_geom.specs.Winding.{wind_by, wind, counted}
use Rattle.scad_geom.specs.Loop.{sides}
use Rattle.scad_geom.specs.Leaves.{AreLeavesBalanced}
use Rattle.scad_geom.specs.Near.{IsClear}
use Rattle.scad_geom.specs.Shape.{is_in_by}
use Rattle.slice_border.specs.Centre.{holds_centre}
use Rattle.slice_border.specs.Outlines.{AreOutlinesOf}

-- no point of an edge lies within one half of a point along both axes
abbrev pub IsClearByHalf : List LeafEdge → Point → Type 0
IsClearByHalf edges q = All (λ e. IsClear (pos 1) q (whole e.edge.a) (whole e.edge.b)) edges

-- outlines wind once round each such cell centre that the shape holds, and not at all round any other such cell centre
abbrev pub HoldCentres : List LeafEdge → Shape → List (List Pt) → Type 0
HoldCentres edges shape outlines =
    (i j : ℤ) → IsClearByHalf edges (centre i j)
    → wind (centre i j) (segments (flat_map sides outlines)) ≡ counted (holds_centre edges shape i j)

-- ---- the laws
-- Where the edges of each leaf are balanced, the outlines of a shape wind once round each point that is clear of the
-- edges by one half and that the shape holds, hard by it on each side, and not at all round any other such point.
abbrev pub OutlinesHoldPoints : Type 0
OutlinesHoldPoints =
    (es : List LeafEdge) (shape : Shape) (outlines : List (List Pt)) → AreLeavesBalanced es
    → AreOutlinesOf es shape outlines → (above right : Bool)
    (q : Point) → pos 0 <ℤ q.d → IsClearByHalf es q
    → wind_by above right q (segments (flat_map sides outlines)) ≡ counted (is_in_by above right es shape q)

-- So it is at cell centres, where what the shape holds is said by the winding numbers of its leaves.
abbrev pub OutlinesHoldCentres : Type 0
OutlinesHoldCentres =
    (es : List LeafEdge) (shape : Shape) (outlines : List (List Pt)) → AreLeavesBalanced es
    → AreOutlinesOf es shape outlines → HoldCentres es shape outlines
