-- How often a number stands in a list.
use Rattle.std.proofs.Common.{◌≡◌, ℕ, ◌+◌, ◌<◌, ◌≤◌, suc, Bool, true, false, cond, List, [], ◌∷◌, ◌++◌, filter, refl, sym, ap, ap₂, ◌∙◌, arith, subst, zero-add, true≢false, IsPermutation}
use Rattle.std.specs.Prelude.{◌==◌, if◌then◌else◌, sum_by}
use Rattle.std.specs.List.{AllByRecursion}
use Rattle.std.specs.List.Sorted.{IsNonDecreasingBy}
use Rattle.std.proofs.lemmas.List.Sums.{sum_by-cons}
use Rattle.std.proofs.lemmas.List.Sorted.{sum_by-IsPermutation, IsPermutation-refl, IsPermutation-sym, IsPermutation-trans, IsPermutation-cons, IsPermutation-middle}
use Rattle.std.proofs.lemmas.List.Elements.{recursion_from_All}
use Rattle.slice_bundles.specs.Bundles.{Ascends}
use Rattle.slice_bundles.specs.Times.{times}

pub same_number : (m n : ℕ) → (m == n) ≡ true → m ≡ n
same_number m n e = grind arith

pub other_number : (m n : ℕ) → (m ≡ n → ⊥) → (m == n) ≡ false
other_number m n h = by_test (m == n) refl
  where
    by_test : (t : Bool) → (m == n) ≡ t → t ≡ false
    by_test true e = absurd (h (same_number m n e))
    by_test false e = refl

pub itself : (n : ℕ) → (n == n) ≡ true
itself n = grind arith

pub times_here : (n : ℕ) (ks : List ℕ) → times n (n ∷ ks) ≡ 1 + times n ks
times_here n ks = ap (λ (b : Bool). (if b then 1 else 0) + times n ks) (itself n)

pub times_other : (n k : ℕ) (ks : List ℕ) → (k == n) ≡ false → times n (k ∷ ks) ≡ times n ks
times_other n k ks e = ap (λ (b : Bool). (if b then 1 else 0) + times n ks) e ∙ zero-add (times n ks)

pub times-append : (n : ℕ) (xs ys : List ℕ) → times n (xs ++ ys) ≡ times n xs + times n ys
times-append n [] ys = sym (zero-add (times n ys))
times-append n (k ∷ ks) ys = added (if k == n then 1 else 0) (times n (ks ++ ys)) (times n ks) (times n ys)
    (times-append n ks ys)
  where
    added : (a b c d : ℕ) → b ≡ c + d → a + b ≡ a + c + d
    added a b c d h = omega arith

times_sum : (n : ℕ) (xs : List ℕ) → times n xs ≡ sum_by (λ k. if k == n then 1 else 0) xs
times_sum n [] = refl
times_sum n (k ∷ ks) =
    ap (λ (m : ℕ). (if k == n then 1 else 0) + m) (times_sum n ks)
    ∙ sym (sum_by-cons (λ (k : ℕ). if k == n then 1 else 0) k ks)

pub times_permuted : (n : ℕ) (xs ys : List ℕ) → IsPermutation xs ys → times n ys ≡ times n xs
times_permuted n xs ys h =
    times_sum n ys ∙ sum_by-IsPermutation (λ (k : ℕ). if k == n then 1 else 0) xs ys h ∙ sym (times_sum n xs)

-- a test that a number passes loses none of it, and one that it doesn't pass all
pub times_kept : (p : ℕ → Bool) (n : ℕ) → p n ≡ true → (xs : List ℕ)
    → times n (filter p xs) ≡ times n xs
times_kept p n t [] = refl
times_kept p n t (k ∷ ks) = by_tests (times_kept p n t ks) (p k) (k == n) refl refl
  where
    by_tests : times n (filter p ks) ≡ times n ks → (b c : Bool) → p k ≡ b → (k == n) ≡ c
        → times n (cond b (k ∷ filter p ks) (filter p ks)) ≡ times n (k ∷ ks)
    by_tests h true c x y = ap (λ (m : ℕ). (if k == n then 1 else 0) + m) h
    by_tests h false true x y = absurd (true≢false (sym t ∙ ap p (sym (same_number k n y)) ∙ x))
    by_tests h false false x y = h ∙ sym (times_other n k ks y)

pub times_lost : (p : ℕ → Bool) (n : ℕ) → p n ≡ false → (xs : List ℕ) → times n (filter p xs) ≡ 0
times_lost p n t [] = refl
times_lost p n t (k ∷ ks) = by_tests (times_lost p n t ks) (p k) (k == n) refl refl
  where
    by_tests : times n (filter p ks) ≡ 0 → (b c : Bool) → p k ≡ b → (k == n) ≡ c
        → times n (cond b (k ∷ filter p ks) (filter p ks)) ≡ 0
    by_tests h true true x y = absurd (true≢false (sym x ∙ ap p (same_number k n y) ∙ t))
    by_tests h true false x y = times_other n k (filter p ks) y ∙ h
    by_tests h false c x y = h

-- what is true of each number of a list
pub standing : (P : ℕ → Type 0) (n : ℕ) (xs : List ℕ) → AllByRecursion P xs → 1 ≤ times n xs → P n
standing P n [] a h = absurd (omega arith)
standing P n (k ∷ ks) a h = by_test (k == n) refl (standing P n ks a.1)
  where
    by_test : (t : Bool) → (k == n) ≡ t → (1 ≤ times n ks → P n) → P n
    by_test true e r = subst P (same_number k n e) a.0
    by_test false e r = r (subst (λ (m : ℕ). 1 ≤ m) (times_other n k ks e) h)

-- each number is below those behind it
abbrev pub AreStrict : List ℕ → Type 0
AreStrict [] = Unit {0}
AreStrict (k ∷ ks) = AllByRecursion (λ j. k < j) ks × AreStrict ks

none_stands : (n m : ℕ) → 0 ≡ m → m ≡ 1 + n → ⊥
none_stands n m h k = omega arith

pub same_counts : (xs ys : List ℕ) → AreStrict xs → Ascends ys → ((n : ℕ) → times n xs ≡ times n ys)
    → ys ≡ xs
same_counts [] [] s a h = refl
same_counts [] (y ∷ ys) s a h = absurd (none_stands (times y ys) (times y (y ∷ ys)) (h y) (times_here y ys))
same_counts (x ∷ xs) [] s a h = absurd (none_stands (times x xs) (times x (x ∷ xs)) (sym (h x)) (times_here x xs))
same_counts (x ∷ xs) (y ∷ ys) s a h =
    let e : x ≡ y = omega (arith, not_above, not_below) in
    ap₂ (λ (k : ℕ) (ks : List ℕ). k ∷ ks) (sym e) (same_counts xs ys s.1 a.1
    (λ n. without n (if x == n then 1 else 0) (if y == n then 1 else 0) (times n xs) (times n ys)
    (ap (λ (k : ℕ). if k == n then 1 else 0) e) (h n)))
  where
    above : (js : List ℕ) → AllByRecursion (λ j. x < j) js → AllByRecursion (λ j. x ≤ j) js
    above [] q = tt
    above (j ∷ js) q = let q0 = q.0 in (omega arith, above js q.1)

    at_least : (k m : ℕ) (l : ℕ) → k ≡ 1 + l → m ≡ k → 1 ≤ m
    at_least k m l p q = omega arith

    not_above : y ≤ x
    not_above = standing (λ j. y ≤ j) x (y ∷ ys) (omega arith, a.0)
        (at_least (times x (x ∷ xs)) (times x (y ∷ ys))
        (times x xs) (times_here x xs) (sym (h x)))

    not_below : x ≤ y
    not_below = standing (λ j. x ≤ j) y (x ∷ xs) (omega arith, above xs s.0) (at_least (times y (y ∷ ys))
        (times y (x ∷ xs)) (times y ys) (times_here y ys) (h y))

    without : (n a b c d : ℕ) → a ≡ b → a + c ≡ b + d → c ≡ d
    without n a b c d p q = omega arith

pub ascends_from : (xs : List ℕ) → IsNonDecreasingBy (λ x. x) xs → Ascends xs
ascends_from [] h = tt
ascends_from (x ∷ xs) h = (
  recursion_from_All (λ j. x ≤ j) xs (λ k d o. h 0 (suc k) d (omega arith) (omega arith)),
  ascends_from xs (λ i j d o q. h (suc i) (suc j) d (omega arith) (omega arith)),
)

-- ---- lists with the same numbers, each as often
-- a number that stands in a list can be taken out
take_out : (n : ℕ) (xs : List ℕ) → 1 ≤ times n xs → (rest : List ℕ) × IsPermutation xs (n ∷ rest)
take_out n [] h = absurd (omega arith)
take_out n (k ∷ ks) h = by_test (k == n) refl (take_out n ks)
  where
    by_test : (t : Bool) → (k == n) ≡ t → (1 ≤ times n ks → (rest : List ℕ) × IsPermutation ks (n ∷ rest))
        → (rest : List ℕ) × IsPermutation (k ∷ ks) (n ∷ rest)
    by_test true e r = (
      ks,
      subst (λ (z : ℕ). IsPermutation (k ∷ ks) (z ∷ ks)) (same_number k n e) (IsPermutation-refl (k ∷ ks)),
    )
    by_test false e r =
        let t = r (subst (λ (m : ℕ). 1 ≤ m) (times_other n k ks e) h) in (
          k ∷ t.0,
          IsPermutation-trans (k ∷ ks) (k ∷ (n ∷ t.0)) (n ∷ (k ∷ t.0)) (IsPermutation-cons k ks (n ∷ t.0) t.1)
              (IsPermutation-middle (k ∷ []) n t.0),
        )

-- are rearrangements of one another
pub from_times : (xs ys : List ℕ) → ((n : ℕ) → times n xs ≡ times n ys) → IsPermutation xs ys
from_times [] [] h = IsPermutation-refl []
from_times [] (y ∷ ys) h = absurd (none_stands (times y ys) (times y (y ∷ ys)) (h y) (times_here y ys))
from_times (x ∷ xs) ys h =
    let t = take_out x ys (at_least (times x ys) (times x (x ∷ xs)) (times x xs) (h x) (times_here x xs)) in
    IsPermutation-trans (x ∷ xs) (x ∷ t.0) ys
    (IsPermutation-cons x xs t.0 (from_times xs t.0
    (λ n. rest (if x == n then 1 else 0) (times n xs) (times n t.0) (times n ys) (h n)
    (times_permuted n ys (x ∷ t.0) t.1))))
    (IsPermutation-sym ys (x ∷ t.0) t.1)
  where
    at_least : (m k l : ℕ) → k ≡ m → k ≡ 1 + l → 1 ≤ m
    at_least m k l p q = omega arith

    rest : (a b c m : ℕ) → a + b ≡ m → a + c ≡ m → b ≡ c
    rest a b c m p q = omega arith

-- so are what a test leaves of them
pub filter_permuted : (p : ℕ → Bool) (xs ys : List ℕ) → IsPermutation xs ys → IsPermutation (filter p xs) (filter p ys)
filter_permuted p xs ys m = from_times (filter p xs) (filter p ys) (λ n. by_test n (p n) refl)
  where
    by_test : (n : ℕ) (t : Bool) → p n ≡ t → times n (filter p xs) ≡ times n (filter p ys)
    by_test n true e = times_kept p n e xs ∙ sym (times_permuted n xs ys m) ∙ sym (times_kept p n e ys)
    by_test n false e = times_lost p n e xs ∙ sym (times_lost p n e ys)
