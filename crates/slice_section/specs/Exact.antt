-- Exact points as the code keeps them.
use Rattle.std.specs.Prelude.{◌≤◌, ◌^◌, unsigned_abs}
use Rattle.scad_geom.specs.Point.{Point}
use Rattle.slice_section.specs.declared.exact.Exact.{Exact}

abbrev pub point_of : Exact → Point
point_of e = record { x = e.x; y = e.y; d = e.d }

-- the numbers of a point of a cut are so small that the sides of points lying near it fit into 128 bits
pub record IsSmall (e : Exact) : Type 0 where
  pub x : unsigned_abs e.x ≤ 2 ^ 43
  pub y : unsigned_abs e.y ≤ 2 ^ 43
  pub d : unsigned_abs e.d ≤ 2 ^ 22
