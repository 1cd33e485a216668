-- Quotients rounded down and up.
use Rattle.std.specs.Prelude.{ℤ, ◌+ℤ◌, ◌-ℤ◌, ◌*ℤ◌, ◌<ℤ◌, ◌≤ℤ◌}

-- r is the greatest whole number that is at most n / d; d above 0
pub record IsFloor (n d r : ℤ) : Type 0 where
  pub least : (r *ℤ d) ≤ℤ n
  pub most : n <ℤ (r *ℤ d +ℤ d)

-- r is the least whole number that is at least n / d
pub record IsCeiling (n d r : ℤ) : Type 0 where
  pub least : (r *ℤ d -ℤ d) <ℤ n
  pub most : n ≤ℤ (r *ℤ d)
