use Rattle.std.proofs.Common.{◌≡◌, drop}
use Rattle.scad_solid.specs.Height.{higher_of}
use Rattle.scad_tree.specs.Height.{lower_of, greatest, least}
use Rattle.scad_tree.specs.Solid.{members}
use Rattle.scad_tree.specs.View.{solids}
use Rattle.scad_tree.proofs.height.+top.Given as goal

-- the greatest so far, and what is left
abbrev pub invariant-greatest-loop-node : goal.invariant-greatest-loop-node
invariant-greatest-loop-node l = higher_of l.height (greatest (members (solids (drop l.node-index l.nodes))))
    ≡ greatest (members (solids l.nodes))

-- the least so far, and what is left
abbrev pub invariant-least-loop-node : goal.invariant-least-loop-node
invariant-least-loop-node l = lower_of l.height (least (members (solids (drop l.node-index l.nodes))))
    ≡ least (members (solids l.nodes))
