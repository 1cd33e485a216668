-- What is left to do after a turn of the machine.
use Rattle.std.specs.Prelude.{◌≡◌, ◌≢◌, Result, Ok, Err}
use Rattle.scad_tree.specs.Solid.{Solid}
use Rattle.scad_tree.specs.View.{solid_of}
use Rattle.scad_machine.specs.declared.fault.EvalFault.{EvalFault}
use Rattle.scad_machine.specs.declared.fault.EvalFault.TheVariants.{Memory}
use Rattle.scad_machine.specs.declared.machine.Machine.{Machine}
use Rattle.scad_expr.specs.Machine.{held, state_of}
use Rattle.scad_expr.specs.State.{Outcome, gives, refuses}
use Rattle.scad_inst.specs.declared.run.Next.{Next}
use Rattle.scad_inst.specs.declared.run.Next.TheVariants.{More, End}
use Rattle.scad_members.specs.declared.stack.Stack.{Stack}
use Rattle.scad_members.specs.declared.work.Focus.{Focus}
use Rattle.scad_members.specs.Stack.{Goes, goes_on, rest, made_in}

-- after one turn, where a tree may be the last one
abbrev pub Ends : Outcome Solid → Result Next EvalFault → Stack → Machine → Type 0
Ends whole (Ok (More f)) stack m = whole ≡ goes_on f (rest stack) stack.stands (held m) (made_in stack) (state_of m)
Ends whole (Ok (End t)) stack m = whole ≡ gives (solid_of t) (state_of m)
Ends whole (Err e) stack m = e ≢ Memory → whole ≡ refuses e (state_of m)

-- whatever goes on by the one ends by the other
abbrev pub IsMore : Result Focus EvalFault → Result Next EvalFault → Type 0
IsMore focus next = (whole : Outcome Solid) (stack : Stack) (m : Machine) → Goes whole focus stack m
    → Ends whole next stack m
