-- That a tree has outlines at each layer, and one list of them.
use Rattle.std.specs.Prelude.{◌≡◌, ℕ, List}
use Rattle.scad_geom.specs.declared.point.Pt.{Pt}
use Rattle.scad_tree.specs.Solid.{Solid}
use Rattle.scad_tree.specs.Solids.{AreSolids}
use Rattle.slice_layer.specs.Outlines.{AreLayerOutlines}

-- a tree has outlines at a layer of the height h
pub record HasOutlines (layer h : ℕ) (s : Solid) : Type 0 where
  pub outlines : List (List Pt)
  pub are_outlines : AreLayerOutlines layer h s outlines

-- ---- the laws
-- A tree of solids has outlines at each layer.
abbrev pub LayersHaveOutlines : Type 0
LayersHaveOutlines = (layer h : ℕ) (s : Solid) → AreSolids s → HasOutlines layer h s

-- It has one list of them, whichever shape stands for it.
abbrev pub LayersHaveOneOutlines : Type 0
LayersHaveOneOutlines =
    (layer h : ℕ) (s : Solid) → AreSolids s → (a b : List (List Pt))
    → AreLayerOutlines layer h s a → AreLayerOutlines layer h s b → a ≡ b
