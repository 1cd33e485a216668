-- What rounding with halves downwards gives.
use Rattle.std.proofs.Common.{◌≡◌, ℕ, suc, ◌*◌, ◌<◌, ◌≤◌, ℤ, pos, negsuc, neg_ℤ, ◌+ℤ◌, ◌-ℤ◌, ◌*ℤ◌, ◌<ℤ◌, ◌≤ℤ◌, unsigned_abs, arith, inl, inr, zero, ap, subst, sym, ◌∙◌}
use Rattle.scad_base.proofs.Integers.{zero_minus}
use Rattle.std.proofs.lemmas.Int.{ints}
use Rattle.std.proofs.Math.Nat.{mul-le-mul_left, mul_comm}
use Rattle.std.proofs.lemmas.Bool.{cases_lt}
use Rattle.std.specs.Int.{int_div_euclid}
use Rattle.scad_geom.specs.Rounding.{half_down, IsNearest}

-- a quotient's remainder is from 0 to below the divisor
quotient_low : (a : ℤ) (b : ℕ) → 0 < b → (pos b *ℤ int_div_euclid a (pos b)) ≤ℤ a
quotient_low (pos a) b h = omega (arith, ints)
quotient_low (negsuc a) b h = omega (arith, ints)

quotient_high : (a : ℤ) (b : ℕ) → 0 < b → a <ℤ (pos b *ℤ int_div_euclid a (pos b) +ℤ pos b)
quotient_high (pos a) b h = omega (arith, ints)
quotient_high (negsuc a) b h = omega (arith, ints)

-- the quotient of d - 2 n by 2 d, turned round
nearest : (n : ℤ) (d : ℕ) (q : ℤ) → (pos (2 * d) *ℤ q) ≤ℤ (pos d -ℤ pos 2 *ℤ n)
    → (pos d -ℤ pos 2 *ℤ n) <ℤ (pos (2 * d) *ℤ q +ℤ pos (2 * d)) → IsNearest n (pos d) (neg_ℤ q)
nearest n d (pos zero) low high = record { below = omega (arith, ints); above = omega (arith, ints) }
nearest n d (pos (suc q)) low high = record { below = omega (arith, ints); above = omega (arith, ints) }
nearest n d (negsuc q) low high = record { below = omega (arith, ints); above = omega (arith, ints) }

pub IsNearest-half_down : (n : ℤ) (d : ℕ) → 0 < d → IsNearest n (pos d) (half_down n (pos d))
unfolding half_down
IsNearest-half_down n d h =
    nearest n d (int_div_euclid (pos d -ℤ pos 2 *ℤ n) (pos (2 * d)))
    (quotient_low (pos d -ℤ pos 2 *ℤ n) (2 * d) (omega arith))
    (quotient_high (pos d -ℤ pos 2 *ℤ n) (2 * d) (omega arith))

-- what is nearest to a quotient of at most m in size has itself at most m
pub size-IsNearest : (n : ℤ) (d m : ℕ) (r : ℤ) → 0 < d → unsigned_abs n ≤ d * m → IsNearest n (pos d) r
    → unsigned_abs r ≤ m
size-IsNearest n d m (pos r) h small near =
    elim (cases_lt m r) [ inl more ↦ (let larger : d * suc m ≤ d * r = mul-le-mul_left d more in omega (arith, ints, near.below)) | inr most ↦ most ]
size-IsNearest n d m (negsuc r) h small near =
    elim (cases_lt m (suc r)) [ inl more ↦ (let larger : d * suc m ≤ d * suc r = mul-le-mul_left d more in omega (arith, ints, near.above)) | inr most ↦ most ]

-- what the code's steps give
pub record Rounds (n d r : ℤ) (m : ℕ) : Type 0 where
  pub value : r ≡ half_down n d
  pub nearest : IsNearest n d r
  pub size : unsigned_abs r ≤ m

pub rounds : (n d q : ℤ) (m : ℕ) → pos 0 <ℤ d → unsigned_abs n ≤ m * unsigned_abs d
    → q ≡ int_div_euclid (d -ℤ pos 2 *ℤ n) (pos 2 *ℤ d) → Rounds n d (pos 0 -ℤ q) m
unfolding half_down
rounds n (pos d) q m above small e =
    let same : pos 0 -ℤ q ≡ half_down n (pos d) = ap (λ z. pos 0 -ℤ z) e ∙ zero_minus
    (int_div_euclid (pos d -ℤ pos 2 *ℤ n) (pos 2 *ℤ pos d)) in
    let is : IsNearest n (pos d) (pos 0 -ℤ q) = subst (IsNearest n (pos d)) (sym same)
    (IsNearest-half_down n d (omega (arith, ints))) in
    record {
      value = same;
      nearest = is;
      size = size-IsNearest n d m (pos 0 -ℤ q) (omega (arith, ints))
          (subst (λ k. unsigned_abs n ≤ k) (mul_comm m d) small) is;
    }
rounds n (negsuc d) q m above small e = absurd (omega (arith, ints))
