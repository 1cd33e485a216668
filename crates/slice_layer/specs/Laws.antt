-- The laws of a layer's outlines.
use Rattle.std.specs.Prelude.{ℕ, List}
use Rattle.scad_geom.specs.declared.point.Pt.{Pt}
use Rattle.scad_tree.specs.Solid.{Solid}
use Rattle.scad_tree.specs.Solids.{AreClosed}
use Rattle.slice_layer.specs.Outlines.{AreLayerOutlines}
use Rattle.slice_layer.specs.Membership.{HoldPoints, HoldCentres}
use Rattle.slice_layer.specs.Border.{AreNearSectionBorder}

-- At every layer the outlines of a tree of closed surfaces hold what the tree contains, at points more than one
-- micrometre from each of its cuts.
abbrev pub OutlinesHoldPoints : Type 0
OutlinesHoldPoints = (layer h : ℕ) (s : Solid) (outlines : List (List Pt)) → AreClosed s
    → AreLayerOutlines layer h s outlines → HoldPoints layer h s outlines

-- So they do at the centres of cells.
abbrev pub OutlinesHoldCentres : Type 0
OutlinesHoldCentres = (layer h : ℕ) (s : Solid) (outlines : List (List Pt)) → AreClosed s
    → AreLayerOutlines layer h s outlines → HoldCentres layer h s outlines

-- Each point of each side of a layer's outlines lies less than one micrometre along both axes from a border point of
-- the tree's section.
abbrev pub OutlinesAreNearBorder : Type 0
OutlinesAreNearBorder = (layer h : ℕ) (s : Solid) (outlines : List (List Pt))
    → AreLayerOutlines layer h s outlines → AreNearSectionBorder layer h s outlines
