-- Lists of passes, read at a place by `get_elem?`, with one pass taken out of sums, of the least number and of what
-- holds of each.
use Rattle.std.proofs.Common.{◌≡◌, ℕ, zero, suc, ◌+◌, ◌<◌, ◌≤◌, min, List, [], ◌∷◌, ◌++◌, length, get_or, set, sym, refl, ap, subst, arith, All, sum_by, flat_map}
use Rattle.std.proofs.lemmas.List.Sums.{sum_by-cons, sum_by-append}
use mathlib.Core.Option.{some, some-injective, some-ne-none}
use lib.ListN.{get_elem?}
use Rattle.layer_board.specs.Numbers.{lowest}

module _ {A : Type 0} where
  pub at_there : (l : List A) (i : ℕ) (a : A) → get_elem? l i ≡ some a → (i < length l) × ((d : A) → get_or l i d ≡ a)
  at_there [] i a e = absurd (some-ne-none a (sym e))
  at_there (x ∷ xs) zero a e = (omega arith, λ d. some-injective x a e)
  at_there (x ∷ xs) (suc i) a e = let t = at_there xs i a e in let l = t.0 in (omega arith, t.1)

  pub All-at : (P : A → Type 0) (l : List A) (i : ℕ) (a : A) → get_elem? l i ≡ some a → All P l → P a
  All-at P l i a e h = let t = at_there l i a e in subst P (t.1 a) (h i a t.0)

  -- a place whose element isn't the default is in the list
  pub at_live : (f : A → ℕ) (d : A) → f d ≡ 0 → (l : List A) (i : ℕ) → 0 < f (get_or l i d)
      → get_elem? l i ≡ some (get_or l i d)
  at_live f d z [] i h = absurd (omega arith)
  at_live f d z (x ∷ xs) zero h = refl
  at_live f d z (x ∷ xs) (suc i) h = at_live f d z xs i h

  pub sum_out : (f : A → ℕ) (b : A) → f b ≡ 0 → (l : List A) (i : ℕ) (a : A) → get_elem? l i ≡ some a
      → sum_by f l ≡ f a + sum_by f (set l i b)
  sum_out f b z [] i a e = absurd (some-ne-none a (sym e))
  sum_out f b z (x ∷ xs) zero a e = let p : f x ≡ f a = ap f (some-injective x a e) in omega (arith, sum_by-cons f x xs, sum_by-cons f b xs)
  sum_out f b z (x ∷ xs) (suc i) a e = let ih = sum_out f b z xs i a e in omega (arith, sum_by-cons f x xs, sum_by-cons f x (set xs i b))

  -- no part is more than the whole
  pub part_le_sum : (f : A → ℕ) (l : List A) (i : ℕ) (a : A) → get_elem? l i ≡ some a → f a ≤ sum_by f l
  part_le_sum f [] i a e = absurd (some-ne-none a (sym e))
  part_le_sum f (x ∷ xs) zero a e = let p : f x ≡ f a = ap f (some-injective x a e) in omega (arith, sum_by-cons f x xs)
  part_le_sum f (x ∷ xs) (suc i) a e = let ih = part_le_sum f xs i a e in omega (arith, sum_by-cons f x xs)

  pub sum_none : (f : A → ℕ) (l : List A) → All (λ a. f a ≡ 0) l → sum_by f l ≡ 0
  sum_none f [] h = refl
  sum_none f (x ∷ xs) h =
      let here : f x ≡ 0 = h 0 x (omega arith) in
      let ih = sum_none f xs (λ k d l. h (suc k) d (omega arith)) in
      omega (arith, sum_by-cons f x xs)

  pub none_of_sum : (f : A → ℕ) (l : List A) → sum_by f l ≡ 0 → All (λ a. f a ≡ 0) l
  none_of_sum f [] z k d h = absurd (omega arith)
  none_of_sum f (x ∷ xs) z zero d h = omega (arith, sum_by-cons f x xs)
  none_of_sum f (x ∷ xs) z (suc k) d h = none_of_sum f xs (omega (arith, sum_by-cons f x xs)) k d (omega arith)

  pub flat_sum : (h : ℕ → ℕ) (f : A → List ℕ) (l : List A) → sum_by h (flat_map f l) ≡ sum_by (λ a. sum_by h (f a)) l
  flat_sum h f [] = refl
  flat_sum h f (x ∷ xs) = let ih = flat_sum h f xs in omega (arith, sum_by-append h (f x) (flat_map f xs), sum_by-cons (λ (a : A). sum_by h (f a)) x xs)

module _ {A : Type 0} (f : A → List ℕ) where
  pub flat_push : (l : List A) (b : A) → f b ≡ [] → flat_map f (l ++ b ∷ []) ≡ flat_map f l
  flat_push [] b z = ap (λ xs. xs ++ []) z
  flat_push (x ∷ xs) b z = ap (λ ys. f x ++ ys) (flat_push xs b z)

pub lowest_le : (c : ℕ) (xs : List ℕ) → lowest c xs ≤ c
lowest_le c [] = omega arith
lowest_le c (x ∷ xs) = let ih = lowest_le c xs in omega arith

pub lowest_both : (c : ℕ) (xs ys : List ℕ) → lowest c (xs ++ ys) ≡ min (lowest c xs) (lowest c ys)
lowest_both c [] ys = let l = lowest_le c ys in omega arith
lowest_both c (x ∷ xs) ys = let ih = lowest_both c xs ys in omega arith

module _ {A : Type 0} (c : ℕ) (f : A → List ℕ) where
  pub lowest_out : (b : A) → f b ≡ [] → (l : List A) (i : ℕ) (a : A) → get_elem? l i ≡ some a
      → lowest c (flat_map f l) ≡ min (lowest c (f a)) (lowest c (flat_map f (set l i b)))
  lowest_out b z [] i a e = absurd (some-ne-none a (sym e))
  lowest_out b z (x ∷ xs) zero a e =
      let p : lowest c (f x) ≡ lowest c (f a) = ap (λ (y : A). lowest c (f y)) (some-injective x a e) in
      let q : lowest c (f b) ≡ c = ap (lowest c) z in
      let j = lowest_both c (f x) (flat_map f xs) in
      let k = lowest_both c (f b) (flat_map f xs) in
      let l = lowest_le c (flat_map f xs) in omega arith
  lowest_out b z (x ∷ xs) (suc i) a e =
      let ih = lowest_out b z xs i a e in
      let j = lowest_both c (f x) (flat_map f xs) in
      let k = lowest_both c (f x) (flat_map f (set xs i b)) in omega arith

  pub lowest_none : (l : List A) → All (λ a. f a ≡ []) l → lowest c (flat_map f l) ≡ c
  lowest_none [] h = refl
  lowest_none (x ∷ xs) h =
      let here : lowest c (f x) ≡ c = ap (lowest c) (h 0 x (omega arith)) in
      let ih = lowest_none xs (λ k d l. h (suc k) d (omega arith)) in
      let j = lowest_both c (f x) (flat_map f xs) in omega arith
