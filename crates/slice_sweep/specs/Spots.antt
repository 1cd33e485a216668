-- A place at a height, and whole numbers on both sides of it.
use Rattle.std.specs.Prelude.{ℤ, pos, ◌<ℤ◌, ◌≤ℤ◌, ◌*ℤ◌}
use Rattle.scad_geom.specs.declared.level.Level.{Level}

-- an x over a rise lies between two whole numbers
pub record IsBetween (at : Level) (x up left right : ℤ) : Type 0 where
  pub rises : pos 0 <ℤ up
  pub from : (left *ℤ (up *ℤ at.d)) ≤ℤ x
  pub to : x ≤ℤ (right *ℤ (up *ℤ at.d))
