-- Sums of whole numbers over a list.
use Rattle.std.proofs.Common.{◌≡◌, ℕ, List, [], ◌∷◌, ◌++◌, refl, sym, ap, ap₂, ◌∙◌, arith, sum_by}
use lib.IntN.{ℤ, pos, ◌+ℤ◌, ◌-ℤ◌, +ℤ_assoc, +ℤ_idl}
use Rattle.std.proofs.lemmas.Int.{ints}
use Rattle.std.proofs.lemmas.List.Sums.{sum_by-cons}
use Rattle.std.proofs.lemmas.List.Sorted.{sum_by-IsPermutation}
use Rattle.std.specs.List.Sorted.{IsPermutation}
use borrow.Author.Differences.{up, down}

-- the sum of a function's values over the items
abbrev pub sum_z : {A : Type 0} → (A → ℤ) → List A → ℤ
sum_z f [] = pos 0
sum_z f (x ∷ xs) = f x +ℤ sum_z f xs

pub sum_z-append : {A : Type 0} (f : A → ℤ) (xs ys : List A) → sum_z f (xs ++ ys) ≡ sum_z f xs +ℤ sum_z f ys
sum_z-append f [] ys = sym (+ℤ_idl (sum_z f ys))
sum_z-append f (x ∷ xs) ys = ap (λ (z : ℤ). f x +ℤ z) (sum_z-append f xs ys) ∙ sym
    (+ℤ_assoc (f x) (sum_z f xs) (sum_z f ys))

by_parts : {A : Type 0} (f : A → ℤ) (xs : List A) → sum_z f xs ≡ pos (sum_by (λ x. up (f x)) xs) -ℤ pos
    (sum_by (λ x. down (f x)) xs)
by_parts f [] = refl
by_parts f (x ∷ xs) =
    let a = sum_by-cons (λ x. up (f x)) x xs in
    let b = sum_by-cons (λ x. down (f x)) x xs in
    let r = by_parts f xs in
    rw (a, b, r) (omega (arith, ints))

-- a sum doesn't depend on the order
pub sum_z-permutation : {A : Type 0} (f : A → ℤ) (xs ys : List A) → IsPermutation xs ys → sum_z f ys ≡ sum_z f xs
sum_z-permutation f xs ys h =
    by_parts f ys
    ∙ ap₂ (λ (a b : ℕ). pos a -ℤ pos b) (sum_by-IsPermutation (λ x. up (f x)) xs ys h)
    (sum_by-IsPermutation (λ x. down (f x)) xs ys h)
    ∙ sym (by_parts f xs)
