-- What holds of each layer by its number, layer after layer.
use Rattle.std.proofs.Common.{◌≡◌, ◌<◌, ◌+◌, ℕ, zero, suc, List, [], ◌∷◌, length, subst, arith}
use Rattle.std.specs.Prelude.{slice_get, IsSomeAnd}

-- P holds of the elements of a list, the first of which has the number i
abbrev pub AreFrom : {X : Type 0} → (ℕ → X → Type 0) → ℕ → List X → Type 0
AreFrom P i [] = Unit {0}
AreFrom P i (x ∷ xs) = P i x × AreFrom P (i + 1) xs

module _ {X : Type 0} (P : ℕ → X → Type 0) where
  from_each : (i : ℕ) (xs : List X)
      → ((k : ℕ) → k < length xs → IsSomeAnd (slice_get xs k) (P (i + k))) → AreFrom P i xs
  from_each i [] h = tt
  from_each i (x ∷ xs) h =
      let here : i + 0 ≡ i = omega arith in (
        subst (λ (k : ℕ). P k x) here (h 0 (omega arith)),
        from_each (i + 1) xs (λ k there.
            let e : i + suc k ≡ (i + 1) + k = omega arith in
            subst (λ (n : ℕ). IsSomeAnd (slice_get xs k) (P n)) e (h (suc k) (omega arith))),
      )

  pub from_first : (xs : List X) → ((k : ℕ) → k < length xs → IsSomeAnd (slice_get xs k) (P k)) → AreFrom P 0 xs
  from_first xs h =
      from_each 0 xs (λ k there.
      let e : k ≡ 0 + k = omega arith in subst (λ (n : ℕ). IsSomeAnd (slice_get xs k) (P n)) e (h k there))

  -- and back
  each_from : (i : ℕ) (xs : List X) → AreFrom P i xs → (k : ℕ) → k < length xs → IsSomeAnd (slice_get xs k) (P (i + k))
  each_from i [] h k there = absurd (omega (arith, there))
  each_from i (x ∷ xs) h zero there = let e : i ≡ i + 0 = omega arith in subst (λ (n : ℕ). P n x) e h.0
  each_from i (x ∷ xs) h (suc k) there =
      let e : (i + 1) + k ≡ i + suc k = omega arith in
      subst (λ (n : ℕ). IsSomeAnd (slice_get xs k) (P n)) e (each_from (i + 1) xs h.1 k (omega (arith, there)))

  pub first_each : (xs : List X) → AreFrom P 0 xs → (k : ℕ) → k < length xs → IsSomeAnd (slice_get xs k) (P k)
  first_each xs h k there =
      let e : 0 + k ≡ k = omega arith in subst (λ (n : ℕ). IsSomeAnd (slice_get xs k) (P n)) e
      (each_from 0 xs h k there)
