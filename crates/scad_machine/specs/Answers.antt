-- How code answers what a definition gives.
use Rattle.std.specs.Prelude.{◌≡◌, ◌≢◌, Result, Ok, Err}
use Rattle.scad_machine.specs.declared.fault.EvalFault.{EvalFault}
use Rattle.scad_machine.specs.declared.fault.EvalFault.TheVariants.{Memory}
use Rattle.scad_machine.specs.State.{State, Outcome, gives, refuses}

-- the answer and the state after it are those of the outcome, unless there was no memory
abbrev pub Does : {A B : Type 0} → (A → B) → Outcome B → Result A EvalFault → State → Type 0
Does view outcome (Ok a) new = outcome ≡ gives (view a) new
Does view outcome (Err e) new = e ≢ Memory → outcome ≡ refuses e new

-- an answer that tells no more than that it is one
abbrev pub nothing : {A : Type 0} → A → Unit {0}
nothing a = tt

-- it was done, and nothing else changed
abbrev pub done_at : State → Outcome (Unit {0})
done_at s = gives tt s
