use Rattle.std.proofs.Common.{drop}
use Rattle.std.specs.Prelude.{All}
use Rattle.scad_solid.specs.Solid.{IsSolid}
use Rattle.scad_tree.specs.Order.{all_surfaces}
use Rattle.scad_tree.specs.Solid.{members}
use Rattle.scad_tree.specs.View.{solids}
use Rattle.scad_tree.proofs.solids.+solids.Given as goal

-- all are solids' where those left are
abbrev pub invariant-nodes_are_of_solids-loop-node : goal.invariant-nodes_are_of_solids-loop-node
invariant-nodes_are_of_solids-loop-node l = All IsSolid (all_surfaces (members (solids (drop l.node-index l.nodes))))
    → All IsSolid (all_surfaces (members (solids l.nodes)))
