use Rattle.std.proofs.Common.{◌≡◌, ◌+◌, ◌++◌, drop}
use Rattle.scad_tree.specs.Order.{all_leaves}
use Rattle.scad_tree.specs.Solid.{members}
use Rattle.scad_tree.specs.Text.{all_lines}
use Rattle.scad_tree.specs.View.{solids}
use Rattle.scad_tree.proofs.text.+text.Given as goal

-- the lines so far, and those of what is left
abbrev pub invariant-push_members-loop-node : goal.invariant-push_members-loop-node
invariant-push_members-loop-node l = record {
  written : l.out.items ++ all_lines l.level l.leaf (members (solids (drop l.node-index l.nodes))) ≡ l.fn.out.items ++
      all_lines l.level l.fn.leaf (members (solids l.nodes));
  numbered : l.leaf + all_leaves (members (solids (drop l.node-index l.nodes))) ≡ l.fn.leaf + all_leaves
      (members (solids l.nodes));
}
