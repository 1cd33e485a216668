-- A tree has one list of outlines at a layer.
use Rattle.std.proofs.Common.{sym, ◌∙◌}
use Rattle.scad_tree.specs.Sections.{tree_section}
use Rattle.slice_layer.proofs.Border.{shape_section}
use Rattle.slice_layer.proofs.Surfaces.{section_within}
use Rattle.outline_laws.specs.Layers.{LayersHaveOneOutlines}
use Rattle.outline_laws.proofs.OneOutlines.{alike_have_one_outlines}

pub layers_have_one_outlines : LayersHaveOneOutlines
layers_have_one_outlines layer h s solids outlines more a b =
    alike_have_one_outlines (tree_section layer h s) (section_within layer h s solids) a.shape b.shape
    (λ above right p d. shape_section layer h s a.shape a.stands above right p ∙ sym (shape_section layer h s b.shape
    b.stands above right p))
    outlines more a.are_outlines b.are_outlines
