-- What a parameter of a module of the language takes, argument by argument, is what a call gives it.
use Rattle.std.proofs.Common.{◌≡◌, ℕ, zero, suc, ◌+◌, ◌<◌, ◌≤◌, ◌||◌, Bool, true, false, if◌then◌else◌}
use Rattle.std.proofs.Common.{List, [], ◌∷◌, length, Option, Some, None, refl, sym, ap, ◌∙◌, arith}
use Rattle.std.specs.Prelude.{◌≢◌, ◌↔◌, IsTrue, slice_get}
use Rattle.std.specs.Cmp.Lexicographic.{nat_list_eq_equiv, bytes_decides}
use Rattle.std.proofs.lemmas.Bool.{false≢true, or_left, or_right, false_from_ne_true, eqb-true, eq-eqb}
use Rattle.std.proofs.lemmas.Option.{none-some, same_Some}
use Rattle.scad_ast.specs.Tree.{Arguments, no_arguments, argument}
use Rattle.scad_value.specs.Datum.{Datum}
use Rattle.scad_scope.specs.Names.{Names, is_same_name, value_of_name, with_name}
use Rattle.scad_machine.specs.Variables.{is_dollar}
use Rattle.scad_machine.specs.Arguments.{is_parameter, to_parameter, to_name, given_from, given}
use Rattle.scad_modules.specs.Arguments.{is_placed, taken_from, if_given, taken}
use Rattle.meaning_laws.specs.Parameters.{unnamed, TakenIsGiven, HaveLists}

same_tests : (a b : Bool) → (a ≡ true) ↔ (b ≡ true) → a ≡ b
same_tests true b is = sym (is.0 refl)
same_tests false true is = is.1 refl
same_tests false false is = refl

-- ---- a name in a frame where another one is set
later_wins : (b : Bool) (d e : Datum) (o : Option Datum)
    → (if b then Some d else o) ≡ (if b then Some d else (if b then Some e else o))
later_wins true d e o = refl
later_wins false d e o = refl

value_of-with : (n m : List ℕ) (d : Datum) (all : Names)
    → value_of_name n (with_name m d all) ≡ (if is_same_name n m then Some d else value_of_name n all)
value_of-with n m d [] = refl
value_of-with n m d (p ∷ more) = by (value_of-with n m d more) (is_same_name m p.0) refl
  where
    apart : (c : Bool) → is_same_name n m ≡ c → is_same_name m p.0 ≡ false
        → (if is_same_name n p.0 then Some p.1 else (if c then Some d else value_of_name n more))
        ≡ (if c then Some d else (if is_same_name n p.0 then Some p.1 else value_of_name n more))
    apart true same other =
        ap (λ b. if b then Some p.1 else Some d)
        (ap (λ k. is_same_name k p.0) ((bytes_decides n m).0 same) ∙ other)
    apart false same other = refl

    by : value_of_name n (with_name m d more) ≡ (if is_same_name n m then Some d else value_of_name n more)
        → (b : Bool) → is_same_name m p.0 ≡ b → value_of_name n (if b then (p.0, d) ∷ more else p ∷ with_name m d more)
        ≡ (if is_same_name n m then Some d else (if is_same_name n p.0 then Some p.1 else value_of_name n more))
    by rest true same =
        later_wins (is_same_name n p.0) d p.1 (value_of_name n more)
        ∙ ap (λ k. if is_same_name n k then Some d else (if is_same_name n p.0 then Some p.1 else value_of_name n more))
        (sym ((bytes_decides m p.0).0 same))
    by rest false other =
        ap (λ o. if is_same_name n p.0 then Some p.1 else o) rest ∙ apart (is_same_name n m) refl other

-- ---- whether an unnamed argument goes to a parameter
placed_at : (i : ℕ) (place : Option ℕ) → (is_placed i place ≡ true) ↔ (place ≡ Some i)
placed_at i None = (λ e. absurd (false≢true e), λ e. absurd (none-some i e))
placed_at i (Some p) = (λ e. ap Some (sym (eqb-true i p e)), λ e. eq-eqb i p (sym (same_Some p i e)))

module _ (parameters : List (List ℕ)) (place : Option ℕ) (name : List ℕ) where
  -- the parameter to which an argument goes by its number
  unnamed_goes : (i : ℕ) (d : Datum) (all : Names) (o : Option (List ℕ)) → (o ≡ Some name) ↔ (place ≡ Some i)
      → value_of_name name (to_parameter o d all) ≡ (if is_placed i place then Some d else value_of_name name all)
  unnamed_goes i d all None is =
      let none = false_from_ne_true (is_placed i place) (λ e. none-some name (is.1 ((placed_at i place).0 e))) in
      ap (λ b. if b then Some d else value_of_name name all) (sym none)
  unnamed_goes i d all (Some n) is =
      value_of-with name n d all
      ∙ ap (λ b. if b then Some d else value_of_name name all)
      (same_tests (is_same_name name n) (is_placed i place) same)
    where
      same : (is_same_name name n ≡ true) ↔ (is_placed i place ≡ true)
      same = (
        λ e. (placed_at i place).1 (is.0 (ap Some (sym ((bytes_decides name n).0 e)))),
        λ e. (bytes_decides name n).1 (sym (same_Some n name (is.1 ((placed_at i place).0 e)))),
      )

  -- the parameter to which an argument goes by its name
  named_goes : (word : List ℕ) (d : Datum) (all : Names) → IsTrue (is_parameter name parameters)
      → value_of_name name (to_name parameters word d all)
      ≡ (if is_same_name name word then Some d else value_of_name name all)
  named_goes word d all there = by (is_parameter word parameters || is_dollar word) refl
    where
      same : is_same_name name word ≡ true → (is_parameter word parameters || is_dollar word) ≡ true
      same e =
          or_left (is_parameter word parameters) (is_dollar word)
          (ap (λ w. is_parameter w parameters) (sym ((bytes_decides name word).0 e)) ∙ there)

      by : (b : Bool) → (is_parameter word parameters || is_dollar word) ≡ b
          → value_of_name name (if b then with_name word d all else all)
          ≡ (if is_same_name name word then Some d else value_of_name name all)
      by true known = value_of-with name word d all
      by false unknown =
          let other = false_from_ne_true (is_same_name name word) (λ e. false≢true (sym unknown ∙ same e)) in
          ap (λ b. if b then Some d else value_of_name name all) (sym other)

  -- before the first argument, or behind any other one, the same is found
  taken-from : (i : ℕ) (args : Arguments) (values : List Datum) (all : Names) (found : Option Datum)
      → IsTrue (is_parameter name parameters)
      → ((j : ℕ) → i ≤ j → j < i + unnamed args → (slice_get parameters j ≡ Some name) ↔ (place ≡ Some j))
      → found ≡ value_of_name name all
      → taken_from place name i args values found ≡ value_of_name name (given_from parameters i args values all)
  taken-from i no_arguments values all found there placed same = same
  taken-from i (argument None e more) [] all found there placed same = same
  taken-from i (argument (Some word) e more) [] all found there placed same = same
  taken-from i (argument None e more) (d ∷ values) all found there placed same =
      taken-from (i + 1) more values (to_parameter (slice_get parameters i) d all)
      (if is_placed i place then Some d else found) there
      (λ j low high. placed j (omega (arith, low)) (omega (arith, high)))
      (ap (λ o. if is_placed i place then Some d else o) same
      ∙ sym (unnamed_goes i d all (slice_get parameters i) (placed i (omega arith) (omega arith))))
  taken-from i (argument (Some word) e more) (d ∷ values) all found there placed same =
      taken-from i more values (to_name parameters word d all) (if is_same_name name word then Some d else found) there
      placed (ap (λ o. if is_same_name name word then Some d else o) same ∙ sym (named_goes word d all there))

pub taken_is_given : TakenIsGiven
unfolding taken given
taken_is_given parameters place name args values has =
    ap if_given
    (taken-from parameters place name 0 args values [] None has.there
    (λ j low high. has.placed j (omega (arith, high))) refl)

-- ---- a list that has a name at a place alone: as many other names stand before it
abbrev behind : ℕ → List ℕ → List (List ℕ)
behind zero name = name ∷ []
behind (suc p) name = (0 ∷ name) ∷ behind p name

module _ (name : List ℕ) where
  longer : 0 ∷ name ≢ name
  longer e = let no : ⊥ = omega (arith, ap length e) in no

  behind-has : (p : ℕ) → IsTrue (is_parameter name (behind p name))
  behind-has zero = or_left (is_same_name name name) false (nat_list_eq_equiv.refl name)
  behind-has (suc p) = or_right (is_same_name name (0 ∷ name)) (is_parameter name (behind p name)) (behind-has p)

  behind-at : (p i : ℕ) → (slice_get (behind p name) i ≡ Some name) ↔ (p ≡ i)
  behind-at zero zero = (λ e. refl, λ e. refl)
  behind-at zero (suc i) = (λ e. absurd (none-some name e), λ e. absurd (omega (arith, e)))
  behind-at (suc p) zero = (λ e. absurd (longer (same_Some (0 ∷ name) name e)), λ e. absurd (omega (arith, e)))
  behind-at (suc p) (suc i) = (λ e. ap suc ((behind-at p i).0 e), λ e. (behind-at p i).1 (omega (arith, e)))

pub parameters_have_lists : HaveLists
parameters_have_lists (Some p) name count = (
  behind p name,
  record {
    there = behind-has name p;
    placed =
        λ i low. (λ e. ap Some ((behind-at name p i).0 e), λ e. (behind-at name p i).1 (same_Some p i e));
  },
)
parameters_have_lists None name count = (
  behind count name,
  record {
    there = behind-has name count;
    placed =
        λ i low. (
          λ e. let at = (behind-at name count i).0 e in absurd (omega (arith, low, at)),
          λ e. absurd (none-some i e),
        );
  },
)
