-- Rounding to the nearest whole number, a half towards minus infinity.
use Rattle.std.specs.Prelude.{ℤ, pos, neg_ℤ, ◌+ℤ◌, ◌-ℤ◌, ◌*ℤ◌, ◌<ℤ◌, ◌≤ℤ◌}
use Rattle.std.specs.Int.{int_div_euclid}

-- the whole number nearest to n / d, of two such the lower one; d above 0
unfoldable pub half_down : ℤ → ℤ → ℤ
half_down n d = neg_ℤ (int_div_euclid (d -ℤ pos 2 *ℤ n) (pos 2 *ℤ d))

-- r lies above n / d by less than one half, or below it by at most one half; d above 0
pub record IsNearest (n d r : ℤ) : Type 0 where
  pub below : (pos 2 *ℤ d *ℤ r) <ℤ (pos 2 *ℤ n +ℤ d)
  pub above : (pos 2 *ℤ n -ℤ d) ≤ℤ (pos 2 *ℤ d *ℤ r)
