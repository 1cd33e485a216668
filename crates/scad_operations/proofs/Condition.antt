-- The test of an `assert` among its arguments.
use Rattle.std.proofs.Common.{◌≡◌, ℕ, zero, suc, ◌+◌, add-one, Bool, true, false, ◌||◌, List, [], ◌∷◌, Option, Some, None, if◌then◌else◌, codes, refl, sym, ap, ◌∙◌}
use Rattle.std.specs.Prelude.{slice_get}
use Rattle.std.specs.Cmp.Lexicographic.{nat_list_eq_equiv, bytes_decides}
use Rattle.std.proofs.lemmas.Bool.{or_parts}
use Rattle.scad_ast.specs.Tree.{Arguments, no_arguments, argument}
use Rattle.scad_value.specs.Datum.{Datum}
use Rattle.scad_scope.specs.Names.{Names, is_same_name, value_of_name, with_name}
use Rattle.scad_machine.specs.Variables.{is_dollar}
use Rattle.scad_machine.specs.Arguments.{is_parameter, to_parameter, to_name, given_from, given}
use Rattle.scad_operations.specs.Condition.{test_from}

-- ---- a name in a frame where another one is set
chosen_twice : (b : Bool) (d e : Datum) (o : Option Datum) → (if b then Some d else o)
    ≡ (if b then Some d else (if b then Some e else o))
chosen_twice true d e o = refl
chosen_twice false d e o = refl

value_of-with : (n m : List ℕ) (d : Datum) (all : Names) → value_of_name n (with_name m d all)
    ≡ (if is_same_name n m then Some d else value_of_name n all)
value_of-with n m d [] = refl
value_of-with n m d (p ∷ more) = by (value_of-with n m d more) (is_same_name m p.0) refl
  where
    apart : (c : Bool) → is_same_name n m ≡ c → is_same_name m p.0 ≡ false
        → (if is_same_name n p.0 then Some p.1 else (if c then Some d else value_of_name n more))
        ≡ (if c then Some d else (if is_same_name n p.0 then Some p.1 else value_of_name n more))
    apart true f e = ap (λ b. if b then Some p.1 else Some d)
        (ap (λ k. is_same_name k p.0) ((bytes_decides n m).0 f) ∙
        e)
    apart false f e = refl

    by : value_of_name n (with_name m d more) ≡ (if is_same_name n m then Some d else value_of_name n more)
        → (b : Bool)
        → is_same_name m p.0 ≡ b → value_of_name n (if b then (p.0, d) ∷ more else p ∷ with_name m d more)
        ≡ (if is_same_name n m then Some d else (if is_same_name n p.0 then Some p.1 else value_of_name n more))
    by rest true e =
        chosen_twice (is_same_name n p.0) d p.1 (value_of_name n more)
        ∙ ap (λ k. if is_same_name n k then Some d else
        (if is_same_name n p.0 then Some p.1 else value_of_name n more))
        (sym ((bytes_decides m p.0).0 e))
    by rest false e = ap (λ o. if is_same_name n p.0 then Some p.1 else o) rest ∙ apart (is_same_name n m) refl e

-- ---- the parameters of `assert`
abbrev is_zero : ℕ → Bool
is_zero zero = true
is_zero (suc i) = false

abbrev names : List (List ℕ)
names = codes "test" ∷ codes "text" ∷ []

unnamed : (i : ℕ) (d : Datum) (all : Names) → value_of_name (codes "test") (to_parameter (slice_get names i) d all)
    ≡ (if is_zero i then Some d else value_of_name (codes "test") all)
unnamed zero d all = value_of-with (codes "test") (codes "test") d all
unnamed (suc zero) d all = value_of-with (codes "test") (codes "text") d all
unnamed (suc (suc i)) d all = refl

named : (name : List ℕ) (d : Datum) (all : Names) → value_of_name (codes "test") (to_name names name d all)
    ≡ (if is_same_name (codes "test") name then Some d else value_of_name (codes "test") all)
named name d all = by (is_parameter name names || is_dollar name) refl
  where
    by : (b : Bool) → (is_parameter name names || is_dollar name) ≡ b
        → value_of_name (codes "test") (if b then with_name name d all else all)
        ≡ (if is_same_name (codes "test") name then Some d else value_of_name (codes "test") all)
    by true e = value_of-with (codes "test") name d all
    by false e =
        let other : is_same_name name (codes "test") ≡ false = (or_parts (is_same_name name (codes "test"))
        (is_parameter name (codes "text" ∷ [])) (or_parts (is_parameter name names) (is_dollar name) e).0).0 in
        ap (λ b. if b then Some d else value_of_name (codes "test") all)
        (sym (nat_list_eq_equiv.symm (codes "test") name ∙ other))

not_first : (i : ℕ) → is_zero (i + 1) ≡ false
not_first i = ap is_zero (add-one i)

tested-from : (i : ℕ) (args : Arguments) (values : List Datum) (all : Names)
    → value_of_name (codes "test") (given_from names i args values all) ≡ test_from (is_zero i) args values
    (value_of_name (codes "test") all)
tested-from i no_arguments values all = refl
tested-from i (argument None e more) [] all = refl
tested-from i (argument (Some name) e more) [] all = refl
tested-from i (argument None e more) (d ∷ values) all =
    tested-from (i + 1) more values (to_parameter (slice_get names i) d all)
    ∙ ap (λ b. test_from b more values (value_of_name (codes "test") (to_parameter (slice_get names i) d all)))
    (not_first i)
    ∙ ap (test_from false more values) (unnamed i d all)
tested-from i (argument (Some name) e more) (d ∷ values) all =
    tested-from i more values (to_name names name d all) ∙ ap (test_from (is_zero i) more values) (named name d all)

-- the test is the value that has the name `test`
pub tested : (args : Arguments) (values : List Datum)
    → test_from true args values None ≡ value_of_name (codes "test")
    (given (codes "test" ∷ codes "text" ∷ []) args values)
unfolding given
tested args values = sym (tested-from 0 args values [])
