-- Lists with the same elements, each as often, are rearrangements of one another, by a test that tells elements apart.
use Rattle.std.proofs.Common.{◌≡◌, ℕ, ◌+◌, ◌≤◌, Bool, true, false, List, [], ◌∷◌, All, refl, sym, ap, ap₂, ◌∙◌, subst, arith}
use Rattle.std.specs.Prelude.{count_by, IsPermutation}
use Rattle.std.proofs.lemmas.List.Elements.{All-head, All-tail}
use Rattle.std.proofs.lemmas.List.Sums.{sum_by-cons}
use Rattle.std.proofs.lemmas.List.Sorted.{IsPermutation-refl, IsPermutation-sym, IsPermutation-trans, IsPermutation-cons, IsPermutation-middle, sum_by-IsPermutation}
use Rattle.scad_geom.proofs.Balance.{once}

some_more : (m n : ℕ) → 1 ≤ m → m ≡ 0 + n → 1 ≤ n
some_more m n h e = omega arith

none_and_one : (m n : ℕ) → m ≡ 1 + n → 0 ≡ m → ⊥
none_and_one m n h e = omega arith

at_least_one : (m n k : ℕ) → k ≡ 1 + n → k ≡ m → 1 ≤ m
at_least_one m n k h e = omega arith

same_rest : (a m n x y : ℕ) → x ≡ a + m → y ≡ a + n → x ≡ y → m ≡ n
same_rest a m n x y h k e = omega arith

module _ {X : Type 0} (same : X → X → Bool) (itself : (x : X) → same x x ≡ true) (one : (x y : X) → same x y ≡ true → x ≡ y) where
  -- how often an element stands in a list
  abbrev pub times : X → List X → ℕ
  times x xs = count_by (same x) xs

  pub times-cons : (x y : X) (ys : List X) → times x (y ∷ ys) ≡ once (same x y) + times x ys
  times-cons x y ys = sum_by-cons (λ z. once (same x z)) y ys

  pub times_permuted : (x : X) (xs ys : List X) → IsPermutation xs ys → times x xs ≡ times x ys
  times_permuted x xs ys m = sym (sum_by-IsPermutation (λ z. once (same x z)) xs ys m)

  pub times_first : (x : X) (xs : List X) → times x (x ∷ xs) ≡ 1 + times x xs
  times_first x xs = times-cons x x xs ∙ ap (λ (b : Bool). once b + times x xs) (itself x)

  pub times_none : (x : X) (xs : List X) → All (λ y. y ≡ x → ⊥) xs → times x xs ≡ 0
  times_none x [] h = refl
  times_none x (y ∷ ys) h =
      times-cons x y ys
      ∙ ap₂ (λ (b : Bool) (n : ℕ). once b + n) (apart (same x y) refl)
      (times_none x ys (All-tail (λ z. z ≡ x → ⊥) y ys h))
    where
      apart : (b : Bool) → same x y ≡ b → b ≡ false
      apart false e = refl
      apart true e = absurd (All-head (λ z. z ≡ x → ⊥) y ys h (sym (one x y e)))

  -- an element that stands in a list can be taken out
  pub take_out : (x : X) (xs : List X) → 1 ≤ times x xs → (rest : List X) × IsPermutation xs (x ∷ rest)
  take_out x [] h = absurd (omega arith)
  take_out x (y ∷ ys) h = by_test (take_out x ys) (same x y) refl
    where
      by_test : (1 ≤ times x ys → (rest : List X) × IsPermutation ys (x ∷ rest)) → (b : Bool)
          → same x y ≡ b → (rest : List X) × IsPermutation (y ∷ ys) (x ∷ rest)
      by_test more true e = (
        ys,
        subst (λ (z : X). IsPermutation (y ∷ ys) (z ∷ ys)) (sym (one x y e))
            (IsPermutation-refl (y ∷ ys)),
      )
      by_test more false e =
          let r = more (some_more (times x (y ∷ ys)) (times x ys) h (times-cons x y ys ∙ ap (λ (b : Bool). once b + times x ys) e)) in (
            y ∷ r.0,
            IsPermutation-trans (y ∷ ys) (y ∷ (x ∷ r.0)) (x ∷ (y ∷ r.0))
                (IsPermutation-cons y ys (x ∷ r.0) r.1) (IsPermutation-middle (y ∷ []) x r.0),
          )

  pub from_times : (xs ys : List X) → ((x : X) → times x xs ≡ times x ys) → IsPermutation xs ys
  from_times [] [] h = IsPermutation-refl []
  from_times [] (y ∷ ys) h = absurd (none_and_one (times y (y ∷ ys)) (times y ys) (times_first y ys) (h y))
  from_times (x ∷ xs) ys h =
      let f = take_out x ys (at_least_one (times x ys) (times x xs) (times x (x ∷ xs)) (times_first x xs) (h x)) in
      IsPermutation-trans (x ∷ xs) (x ∷ f.0) ys
      (IsPermutation-cons x xs f.0 (from_times xs f.0
      (λ z. same_rest (once (same z x)) (times z xs) (times z f.0) (times z (x ∷ xs)) (times z (x ∷ f.0))
      (times-cons z x xs) (times-cons z x f.0)
      (h z ∙ times_permuted z ys (x ∷ f.0) f.1))))
      (IsPermutation-sym ys (x ∷ f.0) f.1)

  pub without_first : (x : X) (xs ys : List X) → IsPermutation (x ∷ xs) (x ∷ ys) → IsPermutation xs ys
  without_first x xs ys m =
      from_times xs ys
      (λ z. same_rest (once (same z x)) (times z xs) (times z ys) (times z (x ∷ xs)) (times z (x ∷ ys))
      (times-cons z x xs) (times-cons z x ys)
      (times_permuted z (x ∷ xs) (x ∷ ys) m))
