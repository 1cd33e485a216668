-- How many layers lie below a height.
use Rattle.std.proofs.Common.{◌≡◌, ℕ, zero, suc, ◌+◌, ◌-◌, ◌*◌, ◌/◌, ◌%◌, ◌<◌, ◌≤◌, Bool, true, false, cond, ℤ, pos, negsuc, ◌*ℤ◌, min, unsigned_abs, arith, refl, ap, sym, ◌∙◌, inl, inr, subst}
use Rattle.std.proofs.lemmas.Bool.{cases_lt}
use Rattle.std.proofs.lemmas.Bool.Decides.{nat_tests}
use Rattle.std.proofs.lemmas.Int.{ints}
use Rattle.std.proofs.lemmas.Nat.{mul-le}
use Rattle.std.proofs.lemmas.Grind.{div_ceil_times}
use Rattle.std.proofs.lemmas.List.Sums.{sum_by-cons}
use Rattle.std.specs.Prelude.{nat_lt, int_lt, count_by}
use Rattle.std.specs.List.{range_with_len}
use Rattle.scad_tree.specs.Height.{is_below_top, layers_below}
use borrow.Author.Tests.{ltb-true}

-- how many of so many numbers from a on lie below k
step : (b : Bool) (a k m : ℕ) → b ≡ nat_lt a k → cond b 1 0 + min m (k - (a + 1)) ≡ min (suc m) (k - a)
step true a k m e = grind (arith, nat_tests)
step false a k m e = grind (arith, nat_tests)

counted : (p : ℕ → Bool) (k : ℕ) → ((n : ℕ) → p n ≡ nat_lt n k) → (m a : ℕ) → count_by p (range_with_len a m)
    ≡ min m (k - a)
counted p k same zero a = let none : 0 ≡ min 0 (k - a) = omega arith in none
counted p k same (suc m) a =
    sum_by-cons (λ n. cond (p n) 1 0) a (range_with_len (a + 1) m)
    ∙ ap (λ c. cond (p a) 1 0 + c) (counted p k same m (a + 1))
    ∙ step (p a) a k m (same a)

-- the tests of two comparisons that say the same
tests_same : (a b c d : ℕ) → (a < b → c < d) → (b ≤ a → d ≤ c) → nat_lt a b ≡ nat_lt c d
tests_same a b c d more less =
    elim (cases_lt a b) [
      | inl below ↦ (let other = more below in grind (arith, nat_tests))
      | inr above ↦ (let other = less above in grind (arith, nat_tests))
    ]

-- a plane lies below a height that isn't negative where its whole part does
plane-below : (n h t : ℕ) → is_below_top (pos t) h n ≡ nat_lt (n * h + h / 2) t
plane-below n h t = tests_same (2 * (n * h + h / 2) + 1) (2 * t) (n * h + h / 2) t (λ e. omega arith) (λ e. omega arith)

module _ (h t q : ℕ) (some : 0 < h) (is : q ≡ (t - h / 2) / h + min 1 ((t - h / 2) % h)) where
  enough : t - h / 2 ≤ q * h
  enough = subst (λ k. t - h / 2 ≤ k * h) (sym is) ((div_ceil_times (t - h / 2) h some).0)

  needed : q * h < (t - h / 2) + h
  needed = subst (λ k. k * h < (t - h / 2) + h) (sym is) ((div_ceil_times (t - h / 2) h some).1)

  below : (n : ℕ) → n < q → n * h + h / 2 < t
  below n less = let next : (n + 1) * h ≤ q * h = mul-le (n + 1) h q h (omega (arith, less)) (omega arith) in let last = needed in omega (arith)

  above : (n : ℕ) → q ≤ n → t ≤ n * h + h / 2
  above n more = let all : q * h ≤ n * h = mul-le q h n h more (omega arith) in let first = enough in omega (arith)

  few : q ≤ t
  few = elim (cases_lt t q) [
    | inl more ↦ (let much : (t + 1) * h ≤ q * h = mul-le (t + 1) h q h (omega (arith, more)) (omega arith) in let each : t * 1 ≤ t * h = mul-le t 1 t h (omega arith) some in let last = needed in absurd (omega arith))
    | inr most ↦ most
  ]

  test : (n : ℕ) → is_below_top (pos t) h n ≡ nat_lt n q
  test n = plane-below n h t ∙ tests_same (n * h + h / 2) t n q (λ e. elim (cases_lt n q) [ inl less ↦ less | inr more ↦ (let other = above n more in absurd (omega arith)) ]) (λ e. elim (cases_lt n q) [ inl less ↦ (let other = below n less in absurd (omega arith)) | inr more ↦ more ])

  counted_below : q ≡ layers_below (pos t) h
  unfolding layers_below
  counted_below = let bound = few in sym (counted (is_below_top (pos t) h) q test t 0 ∙ omega arith)

pub layers_above : (z : ℤ) (h : ℕ) → 0 < h → int_lt z (pos 0) ≡ false → (q : ℕ) → q ≡ (unsigned_abs z - h / 2) / h + min
    1 ((unsigned_abs z - h / 2) % h) → q ≡ layers_below z h
layers_above (pos t) h some above q is = counted_below h t q some is
layers_above (negsuc t) h some above q is = absurd (cc)

-- none lies below a negative height
never : (a t n : ℕ) → int_lt (pos a) (pos 2 *ℤ negsuc t) ≡ nat_lt n 0
never a t n =
    let no : int_lt (pos a) (pos 2 *ℤ negsuc t) ≡ false = grind (arith, ints) in
    let none : nat_lt n 0 ≡ false = grind (arith, nat_tests) in
    no ∙ sym none

pub no_layers : (z : ℤ) (h : ℕ) → int_lt z (pos 0) ≡ true → 0 ≡ layers_below z h
unfolding layers_below
no_layers (pos t) h negative = absurd (omega (arith, ltb-true t 0 negative))
no_layers (negsuc t) h negative =
    sym (counted (is_below_top (negsuc t) h) 0 (λ n. never (2 * (n * h + h / 2) + 1) t n) (suc t) 0 ∙ omega arith)

-- a layer's plane lies below a height exactly where its number is below their count
pub below_count : (z : ℤ) (h layer : ℕ) → 0 < h → nat_lt layer (layers_below z h) ≡ is_below_top z h layer
below_count (pos t) h layer some =
    let q = (t - h / 2) / h + min 1 ((t - h / 2) % h) in
    ap (nat_lt layer) (sym (counted_below h t q some refl)) ∙ sym (test h t q some refl layer)
below_count (negsuc t) h layer some =
    ap (nat_lt layer) (sym (no_layers (negsuc t) h refl)) ∙ sym (never (2 * (layer * h + h / 2) + 1) t layer)
