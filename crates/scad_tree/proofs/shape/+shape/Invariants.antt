use Rattle.std.proofs.Common.{◌≡◌, ◌+◌, drop}
use Rattle.scad_tree.specs.LeafNumbers.{all_numbered, shapes_onto}
use Rattle.scad_tree.specs.Order.{all_leaves}
use Rattle.scad_tree.specs.Solid.{members}
use Rattle.scad_tree.specs.View.{solids}
use Rattle.scad_tree.proofs.shape.+shape.Given as goal

-- the shapes so far, and those of what is left
abbrev pub invariant-shapes_from-loop-node : goal.invariant-shapes_from-loop-node
invariant-shapes_from-loop-node l = record {
  made : shapes_onto l.shapes.items (all_numbered l.leaf (members (solids (drop l.node-index l.nodes)))) ≡ all_numbered
      l.fn.leaf (members (solids l.nodes));
  numbered : l.leaf + all_leaves (members (solids (drop l.node-index l.nodes))) ≡ l.fn.leaf + all_leaves
      (members (solids l.nodes));
}
