-- What a parameter takes of one argument more, and where arguments or values end.
use Rattle.std.proofs.Common.{◌≡◌, ℕ, ◌+◌, ◌<◌, ◌≤◌, List, [], length, get_or, drop, Option, Some, None, refl, ap, ap₂, sym, ◌∙◌, arith}
use Rattle.scad_ast.specs.declared.expression.Arg.{Arg}
use Rattle.scad_ast.specs.Tree.{Arguments, no_arguments, argument}
use Rattle.scad_ast.specs.View.{arguments}
use Rattle.scad_value.specs.Datum.{Datum}
use Rattle.scad_value.specs.declared.value.Value.{Value}
use Rattle.scad_value.specs.View.{datum_of, data_of}
use Rattle.scad_value.proofs.Lists.{arguments-drop, arguments-drop_all, data-drop, data-drop_all}
use Rattle.scad_modules.specs.Arguments.{taken_by, unnamed_before_next, taken_from}

-- no more unnamed arguments stand before an argument than arguments
pub unnamed-few : (r i n : ℕ) (word : Option (List ℕ)) → r ≡ unnamed_before_next i word → i ≤ n → r ≤ n + 1
unnamed-few r i n None is few = omega (arith, is, few)
unnamed-few r i n (Some word) is few = omega (arith, is, few)

module _ (place : Option ℕ) (name : List ℕ) (args : List Arg) (values : List Value) (n k i : ℕ) (found given : Option Datum) (left : taken_from place name i (arguments (drop n args)) (data_of (drop k values)) found ≡ given) where
  pub taken-goes : (a : Arg) (v : Value) (next : ℕ) (more : Option Datum) → n < length args → a ≡ get_or args n a
      → k < length values → v ≡ get_or values k v → next ≡ unnamed_before_next i a.name → more ≡ taken_by place name i a.name
      (datum_of v) found → taken_from place name next (arguments (drop (n + 1) args)) (data_of (drop (k + 1) values))
      more ≡ given
  taken-goes a v next more there is inside item count takes =
      ap₂ (λ j f. taken_from place name j (arguments (drop (n + 1) args)) (data_of (drop (k + 1) values)) f) count takes
      ∙ sym (ap₂ (λ us ds. taken_from place name i us ds found) (arguments-drop args n a there is)
      (data-drop values k v inside item))
      ∙ left

  pub arguments-end : length args ≤ n → found ≡ given
  arguments-end past =
      sym (ap (λ us. taken_from place name i us (data_of (drop k values)) found) (arguments-drop_all args n past)) ∙ left

  no_values : (us : Arguments) → taken_from place name i us [] found ≡ found
  no_values no_arguments = refl
  no_values (argument word e more) = refl

  pub values-end : length values ≤ k → found ≡ given
  values-end past =
      sym (ap (λ ds. taken_from place name i (arguments (drop n args)) ds found) (data-drop_all values k past)
      ∙ no_values (arguments (drop n args))) ∙ left
