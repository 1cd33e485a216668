-- The outlines of a layer are within the limit of points.
use Rattle.std.specs.Prelude.{ℕ, List, All}
use Rattle.scad_geom.specs.declared.point.Pt.{Pt}
use Rattle.scad_geom.specs.Limits.{point_limit}
use Rattle.scad_geom.specs.Within.{IsWithin}
use Rattle.scad_tree.specs.Solid.{Solid}
use Rattle.scad_tree.specs.Solids.{AreSolids}
use Rattle.slice_layer.specs.Outlines.{AreLayerOutlines}

-- ---- the law
-- Each vertex of the outlines of a tree of solids is within the limit of points.
abbrev pub OutlinesAreWithin : Type 0
OutlinesAreWithin =
    (layer h : ℕ) (s : Solid) (outlines : List (List Pt)) → AreSolids s → AreLayerOutlines layer h s outlines
    → All (λ l. All (IsWithin point_limit) l) outlines
