-- The cross product by the lengths of the vectors, one number after another.
use Rattle.std.proofs.Common.{◌≡◌, ℕ, ℤ, false, List, Result, Ok, Err, length, ◌⊎◌, inl, inr, ap, ap₂, sym, ◌∙◌}
use Rattle.std.proofs.lemmas.Bool.{and_parts, eqb-true, false_from_ne_true}
use Rattle.std.specs.Prelude.{◌==◌, ◌&&◌, if◌then◌else◌}
use Rattle.scad_value.specs.Datum.{Datum, number}
use Rattle.scad_builtin.specs.declared.fault.BuiltinFault.{BuiltinFault}
use Rattle.scad_builtin.specs.declared.fault.BuiltinFault.TheVariants.{BadArgument}
use Rattle.scad_builtin.specs.Fault.{and_then}
use Rattle.scad_builtin.specs.Vectors.{cross_entry, cross_of, triple}

abbrev pub number_in : Result ℤ BuiltinFault → Result Datum BuiltinFault
number_in r = and_then r (λ z. Ok (number z))

abbrev pub behind_y : ℤ → ℤ → Result ℤ BuiltinFault → Result Datum BuiltinFault
behind_y x y r = and_then r (λ z. Ok (triple x y z))

abbrev pub behind_x : List ℤ → List ℤ → ℤ → Result ℤ BuiltinFault → Result Datum BuiltinFault
behind_x a b x r = and_then r (λ y. behind_y x y (cross_entry a b 0 1))

abbrev pub all_three : List ℤ → List ℤ → Result ℤ BuiltinFault → Result Datum BuiltinFault
all_three a b r = and_then r (λ x. behind_x a b x (cross_entry a b 2 0))

abbrev by_lengths : Result Datum BuiltinFault → Result Datum BuiltinFault → ℕ → ℕ → Result Datum BuiltinFault
by_lengths two three m n =
    if m == 2 && n == 2 then two else (if m == 3 && n == 3 then three else Err BadArgument)

pub of_two : (a b : List ℤ) → length a ≡ 2 → length b ≡ 2 → cross_of a b ≡ number_in (cross_entry a b 0 1)
of_two a b m n = ap₂ (by_lengths (number_in (cross_entry a b 0 1)) (all_three a b (cross_entry a b 1 2))) m n

pub of_three : (a b : List ℤ) → length a ≡ 3 → length b ≡ 3 → cross_of a b ≡ all_three a b (cross_entry a b 1 2)
of_three a b m n = ap₂ (by_lengths (number_in (cross_entry a b 0 1)) (all_three a b (cross_entry a b 1 2))) m n

-- two lengths that aren't both this one
unlike : (m n k : ℕ) → ((m ≡ k) × (n ≡ k → ⊥)) ⊎ (m ≡ k → ⊥) → (m == k && n == k) ≡ false
unlike m n k either =
    false_from_ne_true (m == k && n == k) (λ both. by either (eqb-true m k (and_parts (m == k) (n == k) both).0)
    (eqb-true n k (and_parts (m == k) (n == k) both).1))
  where
    by : ((m ≡ k) × (n ≡ k → ⊥)) ⊎ (m ≡ k → ⊥) → m ≡ k → n ≡ k → ⊥
    by (inl one) is same = one.1 same
    by (inr other) is same = other is

pub of_other : (a b : List ℤ) (m n : ℕ) → length a ≡ m → length b ≡ n → ((m ≡ 2) × (n ≡ 2 → ⊥)) ⊎ (m ≡ 2 → ⊥)
    → ((m ≡ 3) × (n ≡ 3 → ⊥)) ⊎ (m ≡ 3 → ⊥) → cross_of a b ≡ Err BadArgument
of_other a b m n is same two three =
    ap₂ (by_lengths (number_in (cross_entry a b 0 1)) (all_three a b (cross_entry a b 1 2))) is same
    ∙ ap (λ t. if t then number_in (cross_entry a b 0 1) else (if m == 3 && n == 3 then all_three a b
    (cross_entry a b 1 2) else Err BadArgument)) (unlike m n 2 two)
    ∙ ap (λ t. if t then all_three a b (cross_entry a b 1 2) else Err BadArgument) (unlike m n 3 three)

pub with_x : (a b : List ℤ) (x : ℤ) → length a ≡ 3 → length b ≡ 3 → Ok x ≡ cross_entry a b 1 2
    → cross_of a b ≡ behind_x a b x (cross_entry a b 2 0)
with_x a b x m n is = of_three a b m n ∙ ap (all_three a b) (sym is)

pub with_y : (a b : List ℤ) (x y : ℤ) → length a ≡ 3 → length b ≡ 3 → Ok x ≡ cross_entry a b 1 2
    → Ok y ≡ cross_entry a b 2 0 → cross_of a b ≡ behind_y x y (cross_entry a b 0 1)
with_y a b x y m n is_x is_y = with_x a b x m n is_x ∙ ap (behind_x a b x) (sym is_y)

pub with_z : (a b : List ℤ) (x y z : ℤ) → length a ≡ 3 → length b ≡ 3 → Ok x ≡ cross_entry a b 1 2
    → Ok y ≡ cross_entry a b 2 0 → Ok z ≡ cross_entry a b 0 1 → cross_of a b ≡ Ok (triple x y z)
with_z a b x y z m n is_x is_y is_z = with_y a b x y m n is_x is_y ∙ ap (behind_y x y) (sym is_z)
