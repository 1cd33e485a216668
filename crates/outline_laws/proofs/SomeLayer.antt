-- A tree of solids has outlines at each layer.
use Rattle.std.proofs.Common.{◌≡◌, true, List}
use Rattle.std.proofs.lemmas.List.Elements.{recursion_from_All}
use Rattle.scad_geom.specs.declared.level.LeafEdge.{LeafEdge}
use Rattle.scad_geom.specs.Leaves.{AreLeavesBalanced}
use Rattle.scad_solid.specs.Surface.{is_closed}
use Rattle.scad_tree.specs.Order.{surfaces}
use Rattle.scad_tree.specs.Sections.{tree_section}
use Rattle.slice_layer.proofs.Sections.{leaves_balanced}
use Rattle.slice_layer.proofs.Surfaces.{solids_closed}
use Rattle.outline_laws.specs.Layers.{LayersHaveOutlines}
use Rattle.outline_laws.proofs.Standing.{HasShape, shape_of}
use Rattle.outline_laws.proofs.SomeOutlines.{HasShapeOutlines, shape_outlines}

pub layers_have_outlines : LayersHaveOutlines
layers_have_outlines layer h s solids =
    let es : List LeafEdge = tree_section layer h s in
    let closed = recursion_from_All (λ ts. is_closed ts ≡ true) (surfaces s) (solids_closed s solids) in
    let balanced : AreLeavesBalanced es = leaves_balanced layer h s closed in
    let t : HasShape s = shape_of s in
    let o : HasShapeOutlines es t.shape = shape_outlines es t.shape balanced in
    record {
      outlines = o.outlines;
      are_outlines = record { shape = t.shape; stands = t.stands_for; are_outlines = o.are_outlines };
    }
