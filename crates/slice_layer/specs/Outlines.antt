-- The outlines of a tree at a layer.
use Rattle.std.specs.Prelude.{◌≡◌, ℕ, List, Bool}
use Rattle.scad_geom.specs.declared.point.Pt.{Pt}
use Rattle.scad_geom.specs.declared.shape.Shape.{Shape}
use Rattle.scad_geom.specs.Shape.{shape_holds}
use Rattle.scad_solid.specs.declared.triangle.Triangle.{Triangle}
use Rattle.scad_tree.specs.Solid.{Solid}
use Rattle.scad_tree.specs.Order.{surfaces}
use Rattle.scad_tree.specs.LeafNumbers.{surface_at}
use Rattle.scad_tree.specs.Member.{holds}
use Rattle.scad_tree.specs.Sections.{tree_section}
use Rattle.slice_border.specs.Outlines.{AreOutlinesOf}

-- a shape over the numbers of a tree's surfaces, counted from 0 in tree order, holds what the tree holds, whatever the
-- surfaces hold
abbrev pub StandsFor : Shape → Solid → Type 0
StandsFor shape s = (inside : List Triangle → Bool) → shape_holds (λ n. inside (surface_at (surfaces s) n)) shape ≡ holds inside s

-- the outlines, over the section of the tree at a layer of the height h, of a shape that stands for the tree
pub record AreLayerOutlines (layer h : ℕ) (s : Solid) (outlines : List (List Pt)) : Type 0 where
  pub shape : Shape
  pub stands : StandsFor shape s
  pub are_outlines : AreOutlinesOf (tree_section layer h s) shape outlines
