-- A plane between two heights, and between two points.
use Rattle.std.specs.Prelude.{◌≤◌, ℤ, pos, ◌*ℤ◌, ◌<ℤ◌, unsigned_abs}
use Rattle.scad_geom.specs.declared.point3.Pt3.{Pt3}
use Rattle.scad_geom.specs.Limits.{point_limit}

-- the plane, whose height is doubled, lies strictly between two heights in range
pub record IsBetween (plane low high : ℤ) : Type 0 where
  pub small_low : unsigned_abs low ≤ point_limit
  pub small_high : unsigned_abs high ≤ point_limit
  pub above : (pos 2 *ℤ low) <ℤ plane
  pub below : plane <ℤ (pos 2 *ℤ high)

-- so it does between two points in range
pub record IsThrough (plane : ℤ) (lower upper : Pt3) : Type 0 where
  pub lower_x : unsigned_abs lower.x ≤ point_limit
  pub lower_y : unsigned_abs lower.y ≤ point_limit
  pub upper_x : unsigned_abs upper.x ≤ point_limit
  pub upper_y : unsigned_abs upper.y ≤ point_limit
  pub heights : IsBetween plane lower.z upper.z
