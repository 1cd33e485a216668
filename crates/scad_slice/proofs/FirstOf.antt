-- The first budget of a list.
use Rattle.std.proofs.Common.{◌≡◌, ◌+◌, ◌<◌, ℕ, zero, suc, List, [], ◌∷◌, Option, Some, None, refl, sym, ap, ◌∙◌, arith}
use Rattle.std.specs.Prelude.{map}
use Rattle.std.specs.List.{range_with_len}
use Rattle.scad_fault.specs.declared.budget.Budget.{Budget}
use Rattle.scad_slice.specs.Supports.{first_of}

pub first_alone : (own : Option Budget) → own ≡ first_of (own ∷ [])
first_alone None = refl
first_alone (Some budget) = refl

skips : (own : Option Budget) (rest : List (Option Budget)) → own ≡ None → first_of (own ∷ rest) ≡ first_of rest
skips own rest is = ap (λ (o : Option Budget). first_of (o ∷ rest)) is

takes : (own : Option Budget) (rest : List (Option Budget)) (budget : Budget) → own ≡ Some budget
    → first_of (own ∷ rest) ≡ Some budget
takes own rest budget is = ap (λ (o : Option Budget). first_of (o ∷ rest)) is

module _ (f : ℕ → Option Budget) where
  -- no layer of n from the layer a on passes one
  pub first_none : (a n : ℕ) → ((k : ℕ) → k < n → f (a + k) ≡ None) → first_of (map f (range_with_len a n)) ≡ None
  first_none a zero none = refl
  first_none a (suc n) none =
      skips (f a) (map f (range_with_len (a + 1) n)) (ap f (omega arith) ∙ none 0 (omega arith))
      ∙ first_none (a + 1) n (λ k inside. ap f (omega arith) ∙ none (suc k) (omega (arith, inside)))

  -- the layer a + k is the least that does
  pub first_some : (a n k : ℕ) (budget : Budget) → k < n → ((j : ℕ) → j < k → f (a + j) ≡ None)
      → f (a + k) ≡ Some budget → first_of (map f (range_with_len a n)) ≡ Some budget
  first_some a zero k budget inside below is = absurd (omega (arith, inside))
  first_some a (suc n) zero budget inside below is =
      takes (f a) (map f (range_with_len (a + 1) n)) budget (ap f (omega arith) ∙ is)
  first_some a (suc n) (suc k) budget inside below is =
      skips (f a) (map f (range_with_len (a + 1) n)) (ap f (omega arith) ∙ below 0 (omega arith))
      ∙ first_some (a + 1) n k budget (omega (arith, inside))
      (λ j less. ap f (omega arith) ∙ below (suc j) (omega (arith, less))) (ap f (omega arith) ∙ is)

  -- some layer passes the first budget
  pub found_in : (a n : ℕ) (budget : Budget) → first_of (map f (range_with_len a n)) ≡ Some budget
      → (k : ℕ) × (f k ≡ Some budget)
  found_in a zero budget is = let never : ⊥ = cc in absurd never
  found_in a (suc n) budget is = by_first (f a) refl (found_in (a + 1) n budget)
    where
      by_first : (own : Option Budget) → f a ≡ own
          → (first_of (map f (range_with_len (a + 1) n)) ≡ Some budget → (k : ℕ) × (f k ≡ Some budget))
          → (k : ℕ) × (f k ≡ Some budget)
      by_first (Some other) e behind =
          (a, e ∙ sym (takes (f a) (map f (range_with_len (a + 1) n)) other e) ∙ is)
      by_first None e behind = behind (sym (skips (f a) (map f (range_with_len (a + 1) n)) e) ∙ is)
