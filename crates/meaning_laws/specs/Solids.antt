-- The trees that programs mean.
use Rattle.std.specs.Prelude.{◌≡◌}
use Rattle.scad_ast.specs.Tree.{Items}
use Rattle.scad_expr.specs.State.{State, gives}
use Rattle.scad_tree.specs.Solid.{Solid}
use Rattle.scad_tree.specs.Solids.{AreSolids}
use Rattle.scad_inst.specs.Meaning.{means}

-- the tree that a program means is of solids
abbrev pub ProgramsMeanSolids : Type 0
ProgramsMeanSolids = (program : Items) (tree : Solid) (s : State) → means program ≡ gives tree s → AreSolids tree
