use Rattle.std.proofs.Common.{◌≡◌, ◌+◌, ◌-◌, ◌^◌, ◌<◌, min, drop}
use Rattle.scad_tree.specs.Sizes.{triangle_counts}
use Rattle.scad_tree.specs.Solid.{members}
use Rattle.scad_tree.specs.View.{solids}
use Rattle.scad_tree.proofs.sizes.+triangles.Given as goal

-- those so far, and what is left
abbrev pub invariant-all_triangles-nodes : goal.invariant-all_triangles-nodes
invariant-all_triangles-nodes l = record {
  in_range : l.count < 2 ^ 64;
  reached : min (l.count + triangle_counts (members (solids (drop l.node-index l.nodes)))) (2 ^ 64 - 1)
      ≡ min (triangle_counts (members (solids l.nodes))) (2 ^ 64 - 1);
}
