-- A leaf is that of the space it stands in.
use Rattle.scad_leaves.specs.FlatLeaves.{leaf_in}
use Rattle.scad_leaves.proofs.flat.leaf_in.Goals as goal

pub linear_leaf-requires : goal.linear_leaf-requires
linear_leaf-requires c = c.requires

pub turned_leaf-requires : goal.turned_leaf-requires
turned_leaf-requires c = c.requires

pub returns-in-Linear-clause-does : goal.returns-in-Linear-clause-does
unfolding leaf_in
returns-in-Linear-clause-does c = rw c.in-Linear.is c.linear_leaf.ensures.does

pub returns-in-Turned-clause-does : goal.returns-in-Turned-clause-does
unfolding leaf_in
returns-in-Turned-clause-does c = rw c.in-Turned.is c.turned_leaf.ensures.does
