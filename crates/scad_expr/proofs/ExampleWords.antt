-- How the worked examples are written.
use Rattle.std.proofs.Common.{ℕ, List, [], Option, Some}
use Rattle.std.specs.Prelude.{encode_utf8_all, map}
use Rattle.scad_fault.specs.declared.place.Place.{Place}
use Rattle.scad_fault.specs.declared.fault.FaultKind.{FaultKind}
use Rattle.scad_fault.specs.declared.budget.BudgetKind.{BudgetKind}
use Rattle.scad_ast.specs.Tree.{Expression, Parameter, Items}
use Rattle.scad_value.specs.Datum.{Datum}
use Rattle.scad_scope.specs.Env.{inside, frame, no_children}
use Rattle.scad_machine.specs.declared.fault.EvalFault.{EvalFault}
use Rattle.scad_machine.specs.declared.fault.EvalFault.TheVariants.{Fault, Over}
use Rattle.scad_machine.specs.State.{State, Outcome}
use Rattle.scad_machine.specs.Variables.{first_env, first_along}
use Rattle.scad_stack.specs.Meaning.{value}

-- in line 1
abbrev pub at : ℕ → Place
at column = record { line = 1; col = column }

abbrev pub parameter : List ℕ → Option Expression → Parameter
parameter name default = record { name = name; default = default }

abbrev pub quote : ℕ
quote = 34

-- so many steps were taken and these lines written
abbrev pub after : ℕ → List (List ℕ) → State
after steps lines = record {
  steps = steps;
  leaves = 0;
  triangles = 0;
  profiles = [];
  echoes
      = map encode_utf8_all lines;
}

abbrev pub faulted : FaultKind → Place → List ℕ → EvalFault
faulted kind place name = Fault (record { kind = kind; at = place; name = name })

abbrev pub passed : BudgetKind → Place → EvalFault
passed kind place = Over (record { kind = kind; at = place; layer = 0; count = 0 })

-- an expression of a program with these functions, at its top
abbrev pub evaluated : ℕ → Items → Expression → State → Outcome Datum
evaluated depth functions e = value depth (inside (frame [] (Some functions) no_children) first_env) first_along e
