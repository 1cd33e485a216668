-- Values at a place of a program (OpenSCAD User Manual, "The OpenSCAD Language"): what operators, functions of the language,
-- ranges and members give there, and what is asked of arguments.
use Rattle.std.specs.Prelude.{pos, List, [], ◌∷◌, Option, Some, None, Result, Ok, Err, ℕ, if◌then◌else◌, codes}
use Rattle.std.specs.Ordering.{int_eq}
use Rattle.scad_fault.specs.declared.place.Place.{Place}
use Rattle.scad_fault.specs.declared.fault.FaultKind.TheVariants.{LeftOut as IsLeftOut, UnknownFunction as IsUnknown, BadArgument as IsBadArgument, ZeroDivisor as IsZeroDivisor, NumberRange as IsNumberRange, AssertFailed, ZeroStep}
use Rattle.scad_ast.specs.Tree.{Arguments}
use Rattle.scad_value.specs.Datum.{Datum, undef, number, range}
use Rattle.scad_value.specs.Comparison.{truth}
use Rattle.scad_value.specs.Index.{indexed}
use Rattle.scad_value.specs.declared.fault.ValueFault.{ValueFault}
use Rattle.scad_value.specs.declared.fault.ValueFault.TheVariants.{ZeroDivisor as DividesByZero, NumberRange as PassesRange, Memory as NoMemory}
use Rattle.scad_builtin.specs.declared.fault.BuiltinFault.{BuiltinFault}
use Rattle.scad_builtin.specs.declared.fault.BuiltinFault.TheVariants.{UnknownFunction, LeftOut, BadArgument, ZeroDivisor, NumberRange, Memory}
use Rattle.scad_scope.specs.Names.{is_same_name, value_of_name}
use Rattle.scad_machine.specs.declared.fault.EvalFault.TheVariants.{Memory as WantOfMemory}
use Rattle.scad_machine.specs.State.{Action, pure, refuse, fault, fault_of, make}
use Rattle.scad_machine.specs.Arguments.{given, are_named, is_none}
use Rattle.scad_operations.specs.Runs.{range_of_ends}

-- what an operator gives, and the steps of what it makes
unfoldable pub operated : Place → Result Datum ValueFault → Action Datum
operated at (Ok d) = make at d
operated at (Err DividesByZero) = fault IsZeroDivisor at
operated at (Err PassesRange) = fault IsNumberRange at
operated at (Err NoMemory) = refuse WantOfMemory

-- what a function of the language gives, and the steps of what it makes
unfoldable pub called_builtin : Place → List ℕ → Result Datum BuiltinFault → Action Datum
called_builtin at name (Ok d) = make at d
called_builtin at name (Err UnknownFunction) = fault_of IsUnknown at name
called_builtin at name (Err LeftOut) = fault_of IsLeftOut at name
called_builtin at name (Err BadArgument) = fault_of IsBadArgument at name
called_builtin at name (Err ZeroDivisor) = fault IsZeroDivisor at
called_builtin at name (Err NumberRange) = fault IsNumberRange at
called_builtin at name (Err Memory) = refuse WantOfMemory

-- `[start : step : end]`: `undef` where a part isn't a number; a step of 0 is a fault
unfoldable pub ranged : Place → Datum → Datum → Datum → Action Datum
ranged at (number a) (number s) (number b) = if int_eq s (pos 0) then fault ZeroStep at else pure (range a s b)
ranged at a s b = pure undef

-- `[start : end]`: `undef` where an end isn't a number; the step is 1, and ends in the wrong order are exchanged
unfoldable pub ranged_by_one : Datum → Datum → Datum
ranged_by_one (number a) (number b) = range_of_ends a b
ranged_by_one a b = undef

-- `a.x`, `a.y` and `a.z` are `a[0]`, `a[1]` and `a[2]`; another member is `undef`
unfoldable pub member_of : List ℕ → Datum → Datum
member_of word a =
    if is_same_name word (codes "x") then indexed a (number (pos 0))
    else (if is_same_name word (codes "y") then indexed a (number (pos 1000000))
    else (if is_same_name word (codes "z") then indexed a (number (pos 2000000))
    else undef))

-- the test of an `assert`: it has to be there and not `undef`, and has to be true
abbrev pub tested : Place → Option Datum → Action (Unit {0})
tested at None = fault_of IsBadArgument at (codes "assert")
tested at (Some undef) = fault_of IsBadArgument at (codes "assert")
tested at (Some d) = if truth d then pure tt else fault AssertFailed at

-- `assert` takes its arguments as a call with the parameters `test` and `text`
unfoldable pub asserted : Place → Arguments → List Datum → Action (Unit {0})
asserted at args values = tested at (value_of_name (codes "test")
    (given (codes "test" ∷ codes "text" ∷ []) args values))

-- in `let` and `for` every argument has a name
unfoldable pub judge_named : Place → List ℕ → Arguments → Action (Unit {0})
judge_named at word args = if are_named args then pure tt else fault_of IsBadArgument at word

-- a plain `for` has an argument besides
unfoldable pub judge_variables : Place → List ℕ → Arguments → Action (Unit {0})
judge_variables at word args = if is_none args then fault_of IsBadArgument at word else judge_named at word args
