use Rattle.std.proofs.Common.{subst}
use Rattle.std.specs.Prelude.{All}
use Rattle.scad_solid.specs.Solid.{IsSolid}
use Rattle.scad_tree.specs.Order.{all_surfaces}
use Rattle.scad_tree.specs.Solid.{members}
use Rattle.scad_tree.specs.View.{solid_of, solids}
use Rattle.scad_tree.specs.Solids.{AreSolids}
use Rattle.scad_tree.proofs.Surfaces.{solids_more, solids_union, solids_inter, solids_diff}
use Rattle.scad_tree.proofs.solids.+solids.Goals as goal

pub nodes_are_of_solids-loop-node-preserved : goal.nodes_are_of_solids-loop-node-preserved
nodes_are_of_solids-loop-node-preserved t c =
    λ more. c.loop-node.invariant (solids_more c.args.nodes.now c.loop-node.node-index c.node-item.result
    c.loop-node-test.true c.node-item.is c.node_is_of_solids.ensures more)

pub node_is_of_solids-returns-in-Union : goal.node_is_of_solids-returns-in-Union
node_is_of_solids-returns-in-Union t c =
    solids_union c.args.node.now c.in-Union.members c.in-Union.is
    (subst (λ ns. All IsSolid (all_surfaces (members (solids ns)))) c.deref.ensures.value
    c.nodes_are_of_solids.ensures)

pub node_is_of_solids-returns-in-Inter : goal.node_is_of_solids-returns-in-Inter
node_is_of_solids-returns-in-Inter t c =
    solids_inter c.args.node.now c.in-Inter.members c.in-Inter.is
    (subst (λ ns. All IsSolid (all_surfaces (members (solids ns)))) c.deref-in-Inter.ensures.value
    c.nodes_are_of_solids-in-Inter.ensures)

pub node_is_of_solids-returns-in-Diff : goal.node_is_of_solids-returns-in-Diff
node_is_of_solids-returns-in-Diff t c =
    solids_diff c.args.node.now c.in-Diff.first c.in-Diff.rest c.in-Diff.is (subst (λ n. AreSolids (solid_of n))
    c.deref-in-Diff.ensures c.node_is_of_solids.ensures)
    (subst (λ ns. All IsSolid (all_surfaces (members (solids ns)))) c.deref-in-Diff-2.ensures.value
    c.nodes_are_of_solids-in-Diff.ensures)
