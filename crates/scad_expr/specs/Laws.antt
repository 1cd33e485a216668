-- Laws of what expressions give.
use Rattle.std.specs.Prelude.{ℕ, ◌+◌, ◌≤◌, ◌<◌, ◌≡◌, List}
use Rattle.scad_fault.specs.declared.place.Place.{Place}
use Rattle.scad_ast.specs.Tree.{Expression, Arguments, Element}
use Rattle.scad_value.specs.Datum.{Datum}
use Rattle.scad_scope.specs.Env.{Env}
use Rattle.scad_machine.specs.State.{State, Outcome, gives, refuses, step_limit}
use Rattle.scad_machine.specs.Variables.{Bound}
use Rattle.scad_stack.specs.Meaning.{meaning, value, loop_turns}

-- after it there are no fewer steps than so many, and no more than the limit
abbrev pub Within : {A : Type 0} → ℕ → Outcome A → Type 0
Within n (gives a s) = (n ≤ s.steps) × (s.steps ≤ step_limit)
Within n (refuses e s) = Unit {0}

-- an expression takes steps back never, and never passes their limit
abbrev pub StepsRise : Type 0
StepsRise = (depth : ℕ) (env along : Env) (e : Expression) (s : State) → s.steps ≤ step_limit
    → Within s.steps (value depth env along e s)

-- in a loop with start, test and step any two counts of turns past the steps that are left give the same, so the count
-- never ends
abbrev pub TurnsDontEnd : Type 0
TurnsDontEnd = (depth n m : ℕ) (at : Place) (test : Expression) (steps : Arguments) (body : Element) (env along : Env)
    (b : Bound) (so_far : List Datum) (s : State)
    → s.steps ≤ step_limit → step_limit < s.steps + n → step_limit < s.steps + m
    → loop_turns (meaning depth) n at test steps body env along b so_far s
    ≡ loop_turns (meaning depth) m at test steps body env along b so_far s
