-- Variables that are read where they stand.
use Rattle.std.proofs.Common.{◌≡◌, ◌≢◌, ℕ, ℤ, pos, negsuc, Bool, true, false, List, [], ◌∷◌, Some, Err, Result, if◌then◌else◌, codes, refl, ap, ◌∙◌}
use Rattle.std.specs.Prelude.{int_div}
use Rattle.scad_num.specs.Number.{one}
use Rattle.scad_fault.specs.declared.place.Place.{Place}
use Rattle.scad_ast.specs.declared.expression.Arg.{Arg}
use Rattle.scad_ast.specs.View.{expression_of, arguments}
use Rattle.scad_builtin.specs.declared.fault.BuiltinFault.{BuiltinFault}
use Rattle.scad_builtin.specs.declared.fault.BuiltinFault.TheVariants.{Memory}
use Rattle.scad_builtin.specs.Answer.{Refuses}
use Rattle.scad_value.specs.Datum.{Datum, undef, boolean, number, string, vector, range}
use Rattle.scad_value.specs.Index.{at_whole, indexed}
use Rattle.scad_scope.specs.Names.{is_same_name}
use Rattle.scad_machine.specs.declared.fault.EvalFault.{EvalFault}
use Rattle.scad_machine.specs.declared.fault.EvalFault.TheVariants.{Memory as NoMemory}
use Rattle.scad_machine.specs.State.{State, refuses}
use Rattle.scad_machine.specs.Arguments.{lone}
use Rattle.scad_operations.specs.Values.{member_of, called_builtin}

-- ---- nothing stands in `undef`
whole-undef : (z : ℤ) → at_whole undef z ≡ undef
whole-undef (pos n) = refl
whole-undef (negsuc n) = refl

pub indexed-undef : (i : Datum) → indexed undef i ≡ undef
indexed-undef undef = refl
indexed-undef (boolean b) = refl
indexed-undef (number z) = whole-undef (int_div z (pos one))
indexed-undef (string chars) = refl
indexed-undef (vector all) = refl
indexed-undef (range a s b) = refl

pub member-undef : (word : List ℕ) → member_of word undef ≡ undef
unfolding member_of
member-undef word = by (is_same_name word (codes "x")) (is_same_name word (codes "y")) (is_same_name word (codes "z"))
  where
    by : (x y z : Bool) → (if x then indexed undef (number (pos 0)) else
        (if y then indexed undef (number (pos 1000000))
        else (if z then indexed undef (number (pos 2000000)) else undef))) ≡ undef
    by true y z = indexed-undef (number (pos 0))
    by false true z = indexed-undef (number (pos 1000000))
    by false false true = indexed-undef (number (pos 2000000))
    by false false false = refl

pub ruleset undefined = (indexed-undef, member-undef)

-- ---- a function of the language that refuses
pub refused : (at : Place) (word : List ℕ) (answer : Result Datum BuiltinFault) (e : BuiltinFault) (f : EvalFault)
    (s : State) → Refuses answer e → ((t : State) → f ≢ NoMemory
    → called_builtin at word (Err e) t ≡ refuses f t)
    → (e ≡ Memory → f ≡ NoMemory) → f ≢ NoMemory → called_builtin at word answer s ≡ refuses f s
refused at word answer e f s r told memory some =
    ap (λ a. called_builtin at word a s) (r (λ is. some (memory is))) ∙ told s some

-- ---- a call of one argument
pub alone : (a : Arg) → lone (arguments (a ∷ [])) ≡ Some (expression_of a.value)
alone a = refl
