-- The tree that a node in memory is.
use Rattle.std.specs.Prelude.{List, map}
use Rattle.scad_tree.specs.declared.node.Node.{Node, Empty, Leaf, Union', Inter', Diff', Row_of-Node, end_of-Node, more_of-Node}
use Rattle.scad_tree.specs.Solid.{Solid, Solids, nothing, surface, union, intersection, difference, none, member}

abbrev mutual
  pub solid_of : Node → Solid
  solid_of Empty = nothing
  solid_of (Leaf triangles) = surface triangles
  solid_of (Union' shape all) = union (solids_of all)
  solid_of (Inter' shape all) = intersection (solids_of all)
  solid_of (Diff' box first shape rest) = difference (solid_of first) (solids_of rest)

  pub solids_of : {m : _} → Row_of-Node m → Solids
  solids_of end_of-Node = none
  solids_of (more_of-Node n rest) = member (solid_of n) (solids_of rest)

abbrev pub solids : List Node → List Solid
solids nodes = map solid_of nodes
