use Rattle.std.proofs.Common.{◌≡◌, ◌+◌, ◌++◌, drop}
use Rattle.scad_geom.specs.Leaves.{AreLeavesBalanced}
use Rattle.scad_tree.specs.Order.{all_surfaces, all_leaves}
use Rattle.scad_tree.specs.Solid.{members}
use Rattle.scad_tree.specs.Sections.{sections_from}
use Rattle.scad_tree.specs.View.{solids}
use Rattle.scad_tree.proofs.sections.+edges.Given as goal

-- the edges so far, and those of what is left
abbrev pub invariant-push_members-loop-node : goal.invariant-push_members-loop-node
invariant-push_members-loop-node l = record {
  cut : l.out.items ++ sections_from l.at.number l.at.height l.leaf
      (all_surfaces (members (solids (drop l.node-index l.nodes)))) ≡ l.fn.out.items ++ sections_from l.at.number
      l.at.height l.fn.leaf (all_surfaces (members (solids l.nodes)));
  balanced : AreLeavesBalanced l.fn.out.items → AreLeavesBalanced l.out.items;
  numbered : l.leaf + all_leaves (members (solids (drop l.node-index l.nodes))) ≡ l.fn.leaf + all_leaves
      (members (solids l.nodes));
}
