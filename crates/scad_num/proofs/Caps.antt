-- Products and powers of ten that are read up to a cap.
use Rattle.std.proofs.Common.{◌≡◌, ℕ, suc, ◌-◌, ◌*◌, ◌^◌, ◌<◌, ◌≤◌, min, ◌∙◌, ap, arith, ◌⊎◌, inl, inr}
use Rattle.std.proofs.lemmas.Bool.{cases_lt}
use Rattle.std.proofs.Math.Nat.{mul_assoc, pow-suc, one-le-pow, le-mul_of_pos_right}

-- a power of ten is above 0
pub ten_pow_pos : (k : ℕ) → 0 < 10 ^ k
ten_pow_pos k = grind (arith, one-le-pow)

-- a number past the cap may be cut to it before it is multiplied
pub min-mul : (cap n m : ℕ) → 0 < m → min (min n cap * m) cap ≡ min (n * m) cap
min-mul cap n m h = capped cap n m h (cases_lt cap n)
  where
    capped : (cap n m : ℕ) → 0 < m → (cap < n) ⊎ (n ≤ cap) → min (min n cap * m) cap ≡ min (n * m) cap
    capped cap n m h (inl p) =
        let whole = le-mul_of_pos_right n h in
        let cut = le-mul_of_pos_right (min n cap) h in
        omega arith
    capped cap n m h (inr p) = let e : min n cap ≡ n = omega arith in ap (λ x. min (x * m) cap) e

-- ten times the number, one place fewer
pub min-tens : (cap n k : ℕ) → 0 < k → min (min (n * 10) cap * 10 ^ (k - 1)) cap ≡ min (n * 10 ^ k) cap
min-tens cap n k h = min-mul cap (n * 10) (10 ^ (k - 1)) (ten_pow_pos (k - 1)) ∙ ap (λ x. min x cap) (tens n k h)
  where
    tens : (n k : ℕ) → 0 < k → n * 10 * 10 ^ (k - 1) ≡ n * 10 ^ k
    tens n k h = let e : suc (k - 1) ≡ k = omega arith in mul_assoc n 10 (10 ^ (k - 1)) ∙ ap (λ x. n * x) (grind (arith, pow-suc))

-- what has met the cap stays there
pub min-tens_past : (cap n k : ℕ) → cap ≤ n → min (n * 10 ^ k) cap ≡ cap
min-tens_past cap n k h = let more = le-mul_of_pos_right n (ten_pow_pos k) in omega arith
