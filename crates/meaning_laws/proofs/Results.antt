-- What the rules of expressions share: results with a fault at a place, and judgements.
use Rattle.std.proofs.Common.{ℕ, pos, List, [], ◌∷◌, Option, Some, None, Result, Ok, Err, codes, if◌then◌else◌}
use Rattle.std.specs.Ordering.{int_eq}
use Rattle.scad_fault.specs.declared.place.Place.{Place}
use Rattle.scad_fault.specs.declared.fault.FaultKind.TheVariants.{AssertFailed, BadArgument as IsBad, ZeroStep}
use Rattle.scad_ast.specs.Tree.{Arguments}
use Rattle.scad_value.specs.Datum.{Datum, undef, boolean, number, string, vector, range}
use Rattle.scad_value.specs.Comparison.{truth}
use Rattle.scad_value.specs.declared.fault.ValueFault.{ValueFault}
use Rattle.scad_value.specs.declared.fault.ValueFault.TheVariants.{ZeroDivisor as DividesByZero}
use Rattle.scad_value.specs.declared.fault.ValueFault.TheVariants.{NumberRange as PassesRange}
use Rattle.scad_value.specs.declared.fault.ValueFault.TheVariants.{Memory as NoMemory}
use Rattle.scad_builtin.specs.declared.fault.BuiltinFault.{BuiltinFault}
use Rattle.scad_builtin.specs.declared.fault.BuiltinFault.TheVariants.{UnknownFunction, LeftOut, BadArgument}
use Rattle.scad_builtin.specs.declared.fault.BuiltinFault.TheVariants.{ZeroDivisor, NumberRange, Memory}
use Rattle.scad_scope.specs.Names.{value_of_name}
use Rattle.scad_expr.specs.State.{pure, fault, fault_of}
use Rattle.scad_expr.specs.Arguments.{given, are_named, is_none}
use Rattle.scad_expr.specs.Values.{operated, called_builtin, ranged, tested, asserted, judge_named, judge_variables}
use Rattle.meaning_laws.proofs.Operators.{Operates}
use Rattle.meaning_laws.proofs.Builtins.{Computes}
use Rattle.meaning_laws.proofs.Keeping.{Any, Keeps, either, keeps-pure, keeps-refuse, keeps-fault, keeps-fault_of}
use Rattle.meaning_laws.proofs.Keeping.{keeps-make}

-- ---- results
pub keeps-operated : (at : Place) (r : Result Datum ValueFault) → Operates r → Keeps Any (operated at r)
unfolding operated fault
keeps-operated at (Ok d) operates = keeps-make at d
keeps-operated at (Err DividesByZero) operates = keeps-refuse _ tt
keeps-operated at (Err PassesRange) operates = keeps-refuse _ tt
keeps-operated at (Err NoMemory) operates = keeps-refuse _ operates.is

pub keeps-builtin : (at : Place) (name : List ℕ) (r : Result Datum BuiltinFault) → Computes r
    → Keeps Any (called_builtin at name r)
unfolding called_builtin fault fault_of
keeps-builtin at name (Ok d) computes = keeps-make at d
keeps-builtin at name (Err UnknownFunction) computes = keeps-refuse _ tt
keeps-builtin at name (Err LeftOut) computes = keeps-refuse _ tt
keeps-builtin at name (Err BadArgument) computes = keeps-refuse _ tt
keeps-builtin at name (Err ZeroDivisor) computes = keeps-refuse _ tt
keeps-builtin at name (Err NumberRange) computes = keeps-refuse _ tt
keeps-builtin at name (Err Memory) computes = keeps-refuse _ computes.is

pub keeps-ranged : (at : Place) (a s b : Datum) → Keeps Any (ranged at a s b)
unfolding ranged
keeps-ranged at (number a) (number s) (number b) =
    either (int_eq s (pos 0)) (keeps-fault ZeroStep at) (keeps-pure (range a s b) tt)
keeps-ranged at (number a) (number s) undef = keeps-pure undef tt
keeps-ranged at (number a) (number s) (boolean b) = keeps-pure undef tt
keeps-ranged at (number a) (number s) (string b) = keeps-pure undef tt
keeps-ranged at (number a) (number s) (vector b) = keeps-pure undef tt
keeps-ranged at (number a) (number s) (range b c d) = keeps-pure undef tt
keeps-ranged at (number a) undef b = keeps-pure undef tt
keeps-ranged at (number a) (boolean s) b = keeps-pure undef tt
keeps-ranged at (number a) (string s) b = keeps-pure undef tt
keeps-ranged at (number a) (vector s) b = keeps-pure undef tt
keeps-ranged at (number a) (range s t u) b = keeps-pure undef tt
keeps-ranged at undef s b = keeps-pure undef tt
keeps-ranged at (boolean a) s b = keeps-pure undef tt
keeps-ranged at (string a) s b = keeps-pure undef tt
keeps-ranged at (vector a) s b = keeps-pure undef tt
keeps-ranged at (range a c d) s b = keeps-pure undef tt

-- ---- judgements
keeps-truth : (at : Place) (d : Datum) → Keeps Any (if truth d then pure (tt {0}) else fault AssertFailed at)
keeps-truth at d = either (truth d) (keeps-pure (tt {0}) tt) (keeps-fault AssertFailed at)

keeps-tested : (at : Place) (d : Option Datum) → Keeps Any (tested at d)
keeps-tested at None = keeps-fault_of IsBad at (codes "assert")
keeps-tested at (Some undef) = keeps-fault_of IsBad at (codes "assert")
keeps-tested at (Some (boolean b)) = keeps-truth at (boolean b)
keeps-tested at (Some (number z)) = keeps-truth at (number z)
keeps-tested at (Some (string chars)) = keeps-truth at (string chars)
keeps-tested at (Some (vector all)) = keeps-truth at (vector all)
keeps-tested at (Some (range a s b)) = keeps-truth at (range a s b)

pub keeps-asserted : (at : Place) (args : Arguments) (found : List Datum) → Keeps Any (asserted at args found)
unfolding asserted
keeps-asserted at args found =
    keeps-tested at (value_of_name (codes "test") (given (codes "test" ∷ codes "text" ∷ []) args found))

pub keeps-judge_named : (at : Place) (word : List ℕ) (args : Arguments) → Keeps Any (judge_named at word args)
unfolding judge_named
keeps-judge_named at word args = either (are_named args) (keeps-pure (tt {0}) tt) (keeps-fault_of IsBad at word)

pub keeps-judge_variables : (at : Place) (word : List ℕ) (args : Arguments) → Keeps Any (judge_variables at word args)
unfolding judge_variables
keeps-judge_variables at word args =
    either (is_none args) (keeps-fault_of IsBad at word) (keeps-judge_named at word args)
