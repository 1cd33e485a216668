-- Lines at whole multiples of a spacing.
use Rattle.std.specs.Prelude.{◌≡◌, ℕ, ◌<◌, ℤ, pos, ◌*ℤ◌}

-- a coordinate is a whole multiple of the spacing; of the spacing 0 there is none
pub record IsMultiple (spacing : ℕ) (z : ℤ) : Type 0 where
  pub spaced : 0 < spacing
  pub times : ℤ
  pub is : z ≡ times *ℤ pos spacing
