-- Trees of statements in memory.
use Rattle.std.specs.Prelude.{List, Vec}
use Rattle.std.specs.Global.{Global}
use Rattle.scad_tree.specs.declared.node.Node.{Node}
use Rattle.scad_tree.specs.Solid.{Solid}
use Rattle.scad_tree.specs.View.{solids}

-- the trees that a vector holds
abbrev pub trees_in : Vec Node Global → List Solid
trees_in v = solids v.items
