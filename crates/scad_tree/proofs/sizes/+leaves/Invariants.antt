use Rattle.std.proofs.Common.{◌≡◌, ◌+◌, ◌-◌, ◌^◌, ◌<◌, min, drop}
use Rattle.scad_tree.specs.Order.{all_leaves}
use Rattle.scad_tree.specs.Solid.{members}
use Rattle.scad_tree.specs.View.{solids}
use Rattle.scad_tree.proofs.sizes.+leaves.Given as goal

-- those so far, and what is left
abbrev pub invariant-all_leaves-nodes : goal.invariant-all_leaves-nodes
invariant-all_leaves-nodes l = record {
  in_range : l.count < 2 ^ 64;
  reached : min (l.count + all_leaves (members (solids (drop l.node-index l.nodes)))) (2 ^ 64 - 1)
      ≡ min (all_leaves (members (solids l.nodes))) (2 ^ 64 - 1);
}
