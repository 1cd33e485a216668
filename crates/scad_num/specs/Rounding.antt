-- Rounding to the nearest whole number, a half away from zero.
use Rattle.std.specs.Prelude.{ℕ, suc, ◌+◌, ◌*◌, ◌/◌, ℤ, pos, negsuc, neg_ℤ}

-- the whole number nearest to n / d, a half upwards; d above 0
unfoldable pub half_up : ℕ → ℕ → ℕ
half_up n d = (2 * n + d) / (2 * d)

-- the whole number nearest to n / d, a half away from zero; d above 0
unfoldable pub half_away : ℤ → ℕ → ℤ
half_away (pos n) d = pos (half_up n d)
half_away (negsuc n) d = neg_ℤ (pos (half_up (suc n) d))
