use Rattle.std.proofs.Common.{◌≡◌, ◌-◌, ◌^◌, ◌<◌, min, max, drop}
use Rattle.scad_tree.specs.Nesting.{deepest}
use Rattle.scad_tree.specs.Solid.{members}
use Rattle.scad_tree.specs.View.{solids}
use Rattle.scad_tree.proofs.nesting.+nesting.Given as goal

-- the deepest so far, and what is left
abbrev pub invariant-deepest-loop-node : goal.invariant-deepest-loop-node
invariant-deepest-loop-node l = record {
  in_range : l.depth < 2 ^ 32;
  reached : min (max l.depth (deepest (members (solids (drop l.node-index l.nodes))))) (2 ^ 32 - 1)
      ≡ min (deepest (members (solids l.nodes))) (2 ^ 32 - 1);
}
