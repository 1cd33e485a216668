-- The outlines of a layer lie near to the border of the tree's section.
use Rattle.std.proofs.Common.{◌≡◌, ℕ, Bool, not, flat_map, sym, ◌∙◌}
use Rattle.std.proofs.lemmas.List.Elements.{All-weaker}
use Rattle.scad_geom.specs.declared.point.Edge.{Edge}
use Rattle.scad_geom.specs.declared.shape.Shape.{Shape}
use Rattle.scad_geom.specs.Point.{Point}
use Rattle.scad_geom.specs.Segment.{segments}
use Rattle.scad_geom.specs.Winding.{wind_by}
use Rattle.scad_geom.specs.Loop.{sides}
use Rattle.scad_geom.specs.Shape.{shape_holds, is_in_by}
use Rattle.scad_geom.specs.Sign.{is_zero}
use Rattle.slice_section.specs.Section.{section_of}
use Rattle.scad_tree.specs.Solid.{Solid}
use Rattle.scad_tree.specs.Sections.{tree_section}
use Rattle.slice_border.specs.BorderPoints.{IsBorderPoint}
use Rattle.slice_border.specs.NearBorder.{IsNearBorder}
use Rattle.slice_border.proofs.NearBorder as border
use Rattle.slice_layer.specs.Outlines.{StandsFor}
use Rattle.slice_layer.specs.Border.{section_holds, IsSectionBorder, IsNearSectionBorder}
use Rattle.slice_layer.specs.Laws.{OutlinesAreNearBorder}
use Rattle.slice_layer.proofs.Sections.{leaf_edges}

module _ (layer h : ℕ) (s : Solid) (shape : Shape) (stands : StandsFor shape s) where
  -- over the tree's section, a shape that stands for the tree holds what it holds
  pub shape_section : (above right : Bool) (p : Point) → is_in_by above right (tree_section layer h s) shape p
      ≡ section_holds above right layer h s p
  unfolding is_in_by
  shape_section above right p =
      (λ i. shape_holds (λ leaf. not (is_zero (wind_by above right p (segments (leaf_edges layer h s leaf i))))) shape)
      ∙ stands (λ ts. not (is_zero (wind_by above right p (segments (section_of ts layer h)))))

  section_border : (p : Point) → IsBorderPoint (tree_section layer h s) shape p → IsSectionBorder layer h s p
  section_border p b = record {
    held_above = b.held_above;
    held_right = b.held_right;
    held = sym (shape_section b.held_above b.held_right p) ∙ b.held;
    missed_above = b.missed_above;
    missed_right = b.missed_right;
    missed = sym (shape_section b.missed_above b.missed_right p) ∙ b.missed;
  }

  edge_near : (e : Edge) → IsNearBorder (tree_section layer h s) shape e → IsNearSectionBorder layer h s e
  edge_near e n p d on =
      let found = n p d on in
      record {
        border = found.border;
        positive = found.positive;
        is_border = section_border found.border
            found.is_border;
        near = found.near;
      }

pub outlines_are_near_border : OutlinesAreNearBorder
outlines_are_near_border layer h s outlines a =
    All-weaker (IsNearBorder (tree_section layer h s) a.shape) (IsNearSectionBorder layer h s)
    (edge_near layer h s a.shape a.stands) (flat_map sides outlines)
    (border.outlines_are_near_border (tree_section layer h s) a.shape outlines a.are_outlines)
