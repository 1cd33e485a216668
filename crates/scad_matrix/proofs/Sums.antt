-- A sum of three products.
use Rattle.std.proofs.Common.{◌≡◌, ℕ, ◌+◌, ◌^◌, ◌<◌, ◌≤◌, ℤ, ◌+ℤ◌, unsigned_abs, arith, ap₂, ◌∙◌}

pub sum_of_three : (all both c a b p q r : ℤ) → all ≡ both +ℤ c → both ≡ a +ℤ b → a ≡ p → b ≡ q → c ≡ r
    → all ≡ p +ℤ q +ℤ r
sum_of_three all both c a b p q r sum first is_p is_q is_r =
    sum ∙ ap₂ (λ x y. x +ℤ y) (first ∙ ap₂ (λ x y. x +ℤ y) is_p is_q) is_r

-- of numbers whose sizes a, b and c are at most 2 ^ 100
sizes_sum : (a b c d e : ℕ) → a ≤ 2 ^ 100 → b ≤ 2 ^ 100 → c ≤ 2 ^ 100 → d ≤ a + b → e ≤ d + c → e ≤ 2 ^ 102
sizes_sum a b c d e is_a is_b is_c is_d is_e = omega arith

sizes_fit : (a b c d : ℕ) → a ≤ 2 ^ 100 → b ≤ 2 ^ 100 → c ≤ 2 ^ 100 → d ≤ a + b → d + c < 2 ^ 127
sizes_fit a b c d is_a is_b is_c is_d = omega arith

pub sum_fits : (a b c both : ℤ) → unsigned_abs a ≤ 2 ^ 100 → unsigned_abs b ≤ 2 ^ 100 → unsigned_abs c ≤ 2 ^ 100
    → unsigned_abs both ≤ unsigned_abs a + unsigned_abs b → unsigned_abs both + unsigned_abs c < 2 ^ 127
sum_fits a b c both = sizes_fit (unsigned_abs a) (unsigned_abs b) (unsigned_abs c) (unsigned_abs both)

pub sum_is_small : (a b c both all : ℤ) → unsigned_abs a ≤ 2 ^ 100 → unsigned_abs b ≤ 2 ^ 100
    → unsigned_abs c ≤ 2 ^ 100 → unsigned_abs both ≤ unsigned_abs a + unsigned_abs b
    → unsigned_abs all ≤ unsigned_abs both + unsigned_abs c → unsigned_abs all ≤ 2 ^ 102
sum_is_small a b c both all = sizes_sum (unsigned_abs a) (unsigned_abs b) (unsigned_abs c) (unsigned_abs both)
    (unsigned_abs all)

-- a sum of at most 2 ^ 102 and a product of at most 2 ^ 70 more
pub shifted_is_small : (a b all : ℤ) → unsigned_abs a ≤ 2 ^ 102 → unsigned_abs b ≤ 2 ^ 70
    → unsigned_abs all ≤ unsigned_abs a + unsigned_abs b → unsigned_abs all < 2 ^ 103
shifted_is_small a b all = below (unsigned_abs a) (unsigned_abs b) (unsigned_abs all)
  where
    below : (a b c : ℕ) → a ≤ 2 ^ 102 → b ≤ 2 ^ 70 → c ≤ a + b → c < 2 ^ 103
    below a b c is_a is_b is_c = omega arith

pub shifted_fits : (a b : ℤ) → unsigned_abs a ≤ 2 ^ 102 → unsigned_abs b ≤ 2 ^ 70
    → unsigned_abs a + unsigned_abs b < 2 ^ 127
shifted_fits a b = below (unsigned_abs a) (unsigned_abs b)
  where
    below : (a b : ℕ) → a ≤ 2 ^ 102 → b ≤ 2 ^ 70 → a + b < 2 ^ 127
    below a b is_a is_b = omega arith
