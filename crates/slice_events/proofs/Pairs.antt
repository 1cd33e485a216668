-- Pairs in a relation: in any arrangement of a list, of two lists joined, and at most how many.
use Rattle.std.proofs.Common.{◌≡◌, ℕ, suc, ◌+◌, ◌*◌, ◌≤◌, Bool, List, [], ◌∷◌, ◌++◌, length, refl, sym, ap, ap₂, ◌∙◌, arith}
use Rattle.std.specs.Prelude.{count_by, sum_by, IsPermutation}
use Rattle.std.proofs.lemmas.List.Sums.{sum_by-cons, sum_by-append, count_by-le-length}
use Rattle.std.proofs.lemmas.List.Sorted.{sum_by-IsPermutation}
use Rattle.scad_geom.proofs.Balance.{once}
use Rattle.slice_events.specs.Pairs.{pairs}

pub count-cons : {X : Type 0} (p : X → Bool) (x : X) (xs : List X)
    → count_by p (x ∷ xs) ≡ once (p x) + count_by p xs
count-cons p x xs = sum_by-cons (λ z. once (p z)) x xs

pub count-append : {X : Type 0} (p : X → Bool) (xs ys : List X)
    → count_by p (xs ++ ys) ≡ count_by p xs + count_by p ys
count-append p xs ys = sum_by-append (λ z. once (p z)) xs ys

pub same_sums : {X : Type 0} (f g : X → ℕ) → ((x : X) → f x ≡ g x) → (xs : List X)
    → sum_by f xs ≡ sum_by g xs
same_sums f g h [] = refl
same_sums f g h (x ∷ xs) = sum_by-cons f x xs ∙ ap₂ (λ (j k : ℕ). j + k) (h x) (same_sums f g h xs)
    ∙ sym (sum_by-cons g x xs)

module _ {X : Type 0} (r : X → X → Bool) where
  -- the related pairs of an element of one list and one of another
  abbrev pub across : List X → List X → ℕ
  across xs ys = sum_by (λ x. count_by (r x) ys) xs

  pub across-cons : (x : X) (xs ys : List X) → across (x ∷ xs) ys ≡ count_by (r x) ys + across xs ys
  across-cons x xs ys = sum_by-cons (λ z. count_by (r z) ys) x xs

  pub across-none : (xs : List X) → across xs [] ≡ 0
  across-none [] = refl
  across-none (x ∷ xs) = across-cons x xs [] ∙ none_more (across xs []) (across-none xs)
    where
      none_more : (n : ℕ) → n ≡ 0 → 0 + n ≡ 0
      none_more n h = omega arith

  spread : (a b c d s t u : ℕ) → s ≡ a + b → t ≡ c + d → u ≡ s + t → u ≡ (a + c) + (b + d)
  spread a b c d s t u h k e = omega arith

  pub across-append : (xs ys zs : List X) → across xs (ys ++ zs) ≡ across xs ys + across xs zs
  across-append [] ys zs = refl
  across-append (x ∷ xs) ys zs =
      spread (count_by (r x) ys) (count_by (r x) zs) (across xs ys) (across xs zs) (count_by (r x) (ys ++ zs))
      (across xs (ys ++ zs)) (across (x ∷ xs) (ys ++ zs))
      (count-append (r x) ys zs) (across-append xs ys zs) (across-cons x xs (ys ++ zs))
      ∙ sym (ap₂ (λ (j k : ℕ). j + k) (across-cons x xs ys) (across-cons x xs zs))

  joined : (a b p q c s t : ℕ) → s ≡ a + b → t ≡ p + (c + q) → s + t ≡ (a + p) + ((b + c) + q)
  joined a b p q c s t h k = omega arith

  none_first : (n : ℕ) → n ≡ 0 + (0 + n)
  none_first n = omega arith

  pub pairs-append : (xs ys : List X) → pairs r (xs ++ ys) ≡ pairs r xs + (across xs ys + pairs r ys)
  pairs-append [] ys = none_first (pairs r ys)
  pairs-append (x ∷ xs) ys =
      joined (count_by (r x) xs) (count_by (r x) ys) (pairs r xs) (pairs r ys) (across xs ys)
      (count_by (r x) (xs ++ ys)) (pairs r (xs ++ ys))
      (count-append (r x) xs ys) (pairs-append xs ys)
      ∙ ap (λ (k : ℕ). (count_by (r x) xs + pairs r xs) + (k + pairs r ys)) (sym (across-cons x xs ys))

  grows : (c p n m : ℕ) → c ≤ n → p ≤ n * m → suc n ≤ m → c + p ≤ suc n * m
  grows c p n m h k l = omega arith

  -- at most as many as a number above the length times the length
  pub pairs-few : (m : ℕ) (xs : List X) → length xs ≤ m → pairs r xs ≤ length xs * m
  pairs-few m [] l = omega arith
  pairs-few m (x ∷ xs) l = grows (count_by (r x) xs) (pairs r xs) (length xs) m (count_by-le-length (r x) xs)
      (pairs-few m xs (omega arith)) l

module _ {X : Type 0} (r : X → X → Bool) (symmetric : (x y : X) → r x y ≡ r y x) where
  -- those that stand in it to themselves
  abbrev selves : List X → ℕ
  selves xs = count_by (λ x. r x x) xs

  four_sums : (x y u v : ℕ) → (x + y) + (u + v) ≡ (x + u) + (y + v)
  four_sums x y u v = omega arith

  met-cons : (xs : List X) (y : X) (ys : List X) → across r xs (y ∷ ys) ≡ count_by (r y) xs + across r xs ys
  met-cons [] y ys = refl
  met-cons (x ∷ xs) y ys =
      across-cons r x xs (y ∷ ys)
      ∙ ap₂ (λ (j k : ℕ). j + k) (count-cons (r x) y ys
      ∙ ap (λ (b : Bool). once b + count_by (r x) ys) (symmetric x y)) (met-cons xs y ys)
      ∙ four_sums (once (r y x)) (count_by (r x) ys) (count_by (r y) xs) (across r xs ys)
      ∙ ap₂ (λ (j k : ℕ). j + k) (sym (count-cons (r y) x xs)) (sym (across-cons r x xs ys))

  twice_more : (d a t p s : ℕ) → t ≡ (p + p) + s → (d + a) + (a + t) ≡ ((a + p) + (a + p)) + (d + s)
  twice_more d a t p s k = omega arith

  -- each pair is met twice, and each with itself once
  twice : (xs : List X) → across r xs xs ≡ (pairs r xs + pairs r xs) + selves xs
  twice [] = refl
  twice (x ∷ xs) =
      across-cons r x xs (x ∷ xs)
      ∙ ap₂ (λ (j k : ℕ). j + k) (count-cons (r x) x xs) (met-cons xs x xs)
      ∙ twice_more (once (r x x)) (count_by (r x) xs) (across r xs xs) (pairs r xs) (selves xs) (twice xs)
      ∙ ap (λ (k : ℕ). ((count_by (r x) xs + pairs r xs) + (count_by (r x) xs + pairs r xs)) + k)
      (sym (count-cons (λ z. r z z) x xs))

  halved : (a b m n s t : ℕ) → a ≡ (m + m) + s → b ≡ (n + n) + t → a ≡ b → s ≡ t → m ≡ n
  halved a b m n s t h k e f = omega arith

  met_rearranged : (xs ys : List X) → IsPermutation xs ys → across r xs xs ≡ across r ys ys
  met_rearranged xs ys m =
      sym (sum_by-IsPermutation (λ x. count_by (r x) xs) xs ys m)
      ∙ same_sums (λ x. count_by (r x) xs) (λ x. count_by (r x) ys)
      (λ x. sym (sum_by-IsPermutation (λ y. once (r x y)) xs ys m)) ys

  -- in a symmetric relation there are as many pairs in every arrangement
  pub pairs-rearranged : (xs ys : List X) → IsPermutation xs ys → pairs r xs ≡ pairs r ys
  pairs-rearranged xs ys m =
      halved (across r xs xs) (across r ys ys) (pairs r xs) (pairs r ys) (selves xs) (selves ys) (twice xs) (twice ys)
      (met_rearranged xs ys m)
      (sym (sum_by-IsPermutation (λ x. once (r x x)) xs ys m))
