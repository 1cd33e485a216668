-- What is left to do after a turn of the machine, and after all of them.
use Rattle.std.specs.Prelude.{◌≡◌, ◌≢◌, ℕ, ◌<◌, List, Result, Ok, Err, IfOk}
use Rattle.scad_value.specs.Datum.{Datum}
use Rattle.scad_value.specs.View.{datum_of}
use Rattle.scad_value.specs.declared.value.Value.{Value}
use Rattle.scad_machine.specs.declared.fault.EvalFault.{EvalFault}
use Rattle.scad_machine.specs.declared.fault.EvalFault.TheVariants.{Memory}
use Rattle.scad_machine.specs.declared.machine.Machine.{Machine}
use Rattle.scad_machine.specs.Machine.{Held}
use Rattle.scad_machine.specs.State.{State, Outcome, gives, refuses}
use Rattle.scad_stack.specs.declared.frame.Focus.{Focus}
use Rattle.scad_stack.specs.declared.stack.Stack.{Stack}
use Rattle.scad_stack.specs.Stack.{Whole, Rest, Goes, goes_on, size}
use Rattle.scad_expr.specs.declared.run.Next.{Next}
use Rattle.scad_expr.specs.declared.run.Next.TheVariants.{More, End}

-- after one turn
abbrev pub Ending : Outcome Whole → Result Next EvalFault → Rest → Held → List Datum → State → Type 0
Ending whole (Ok (More f)) k h made s = whole ≡ goes_on f k h made s
Ending whole (Ok (End v)) k h made s = whole ≡ gives (datum_of v, h) s
Ending whole (Err e) k h made s = e ≢ Memory → whole ≡ refuses e s

abbrev pub Less : ℕ → Result Next EvalFault → Stack → Machine → Type 0
Less n (Ok (More f)) stack m = size f stack m < n
Less n (Ok (End v)) stack m = Unit {0}
Less n (Err e) stack m = Unit {0}

-- whatever goes on by the one goes on by the other
abbrev pub IsMore : Result Focus EvalFault → Result Next EvalFault → Type 0
IsMore focus next = (whole : Outcome Whole) (k : Rest) (h : Held) (made : List Datum) (s : State)
    → Goes whole focus k h made s → Ending whole next k h made s

-- and has as much left to do
abbrev pub StaysLess : Result Focus EvalFault → Result Next EvalFault → Type 0
StaysLess focus next = (n : ℕ) (stack : Stack) (m : Machine) → IfOk focus (λ f. size f stack m < n)
    → Less n next stack m

-- after all turns
abbrev pub Done : Outcome Whole → Result Value EvalFault → Held → State → Type 0
Done whole (Ok v) h s = whole ≡ gives (datum_of v, h) s
Done whole (Err e) h s = e ≢ Memory → whole ≡ refuses e s
