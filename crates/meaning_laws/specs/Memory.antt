-- The refusals that programs mean.
use Rattle.std.specs.Prelude.{◌≢◌}
use Rattle.scad_ast.specs.Tree.{Items}
use Rattle.scad_machine.specs.declared.fault.EvalFault.TheVariants.{Memory}
use Rattle.scad_expr.specs.State.{State, refuses}
use Rattle.scad_inst.specs.Meaning.{means}

-- no program means that memory is wanting
abbrev pub ProgramsWantNoMemory : Type 0
ProgramsWantNoMemory = (program : Items) (s : State) → means program ≢ refuses Memory s
