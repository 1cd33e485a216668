-- What holds of elements that are given by their numbers.
use Rattle.std.proofs.Common.{◌≡◌, ◌<◌, ℕ, map, length, ◌∙◌, ap, sym, subst, arith, Some}
use Rattle.std.specs.Prelude.{slice_get, IsSomeAnd, Option}
use Rattle.std.specs.List.{range_with_len}
use Rattle.std.proofs.lemmas.List.FromFn.{length-map-range_with_len, get_or-map-range_with_len}
use Rattle.std.proofs.lemmas.Option.{slice_get-get_or}

module _ {X : Type 0} (f : ℕ → X) (n : ℕ) where
  made_at : (i : ℕ) → i < n → slice_get (map f (range_with_len 0 n)) i ≡ Some (f i)
  made_at i h =
      let long = length-map-range_with_len f 0 n in
      slice_get-get_or (map f (range_with_len 0 n)) i (f i) (omega (arith, h, long))
      ∙ ap Some (get_or-map-range_with_len f 0 n i i (f i) h (omega arith))

  pub each_by_number : (P : ℕ → X → Type 0) → ((i : ℕ) → i < n → P i (f i)) → (i : ℕ)
      → i < length (map f (range_with_len 0 n)) → IsSomeAnd (slice_get (map f (range_with_len 0 n)) i) (P i)
  each_by_number P each i there =
      let long = length-map-range_with_len f 0 n in
      let within : i < n = omega (arith, there, long) in
      subst (λ (o : Option X). IsSomeAnd o (P i)) (sym (made_at i within)) (each i within)
