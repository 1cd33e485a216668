-- What the primitives contain.
use Rattle.std.specs.Prelude.{◌≡◌, ℕ, List, Bool, map, ℤ, pos, ◌+ℤ◌}
use Rattle.scad_geom.specs.declared.point.Pt.{Pt}
use Rattle.scad_geom.specs.declared.point3.Pt3.{Pt3}
use Rattle.scad_solid.specs.Stack.{stacked}
use Rattle.scad_solid.specs.Laws.{HoldBetween, HoldInside}
use Rattle.scad_matrix.specs.declared.matrix.Matrix.{Matrix}
use Rattle.scad_matrix.specs.Matrix.{placed_coordinate, placed_point}
use Rattle.scad_shapes.specs.Outline.{start_of, circle}
use Rattle.scad_shapes.specs.Rings.{two_rings, cube_rings, cylinder_rings}

-- the rows of x and y don't read z, and that of z reads z alone
pub record IsUpright (m : Matrix) : Type 0 where
  pub x_by_z : m.x.z ≡ pos 0
  pub y_by_z : m.y.z ≡ pos 0
  pub z_by_x : m.z.x ≡ pos 0
  pub z_by_y : m.z.y ≡ pos 0

-- each row reads its own coordinate alone: a scaling, which may mirror, and a shift
pub record IsDiagonal (m : Matrix) : Type 0 where
  pub upright : IsUpright m
  pub x_by_y : m.x.y ≡ pos 0
  pub y_by_x : m.y.x ≡ pos 0

-- the outline of an upright prism, placed
abbrev pub placed_outline : Matrix → List (ℤ × ℤ) → List Pt
placed_outline m outline = map (λ p. record { x = placed_coordinate m.x p.0 p.1 (pos 0); y = placed_coordinate m.y p.0 p.1 (pos 0) }) outline

-- the height of an end of an upright prism, placed
abbrev pub placed_height : Matrix → ℤ → ℤ
placed_height m z = placed_coordinate m.z (pos 0) (pos 0) z

-- two opposite corners of a cube, placed
abbrev pub first_corner : ℤ → ℤ → ℤ → Bool → Matrix → Pt3
first_corner x y z center m = placed_point m (start_of x center) (start_of y center) (start_of z center)

abbrev pub last_corner : ℤ → ℤ → ℤ → Bool → Matrix → Pt3
last_corner x y z center m = placed_point m (start_of x center +ℤ x) (start_of y center +ℤ y) (start_of z center +ℤ z)

-- a cube under a diagonal matrix contains a cell centre at a layer exactly where that lies strictly between two opposite
-- placed corners along each axis
pub record CubesHold : Type 0 where
  pub each : (x y z : ℤ) (center : Bool) (m : Matrix) → IsDiagonal m →
      HoldBetween (first_corner x y z center m) (last_corner x y z center m) (stacked (cube_rings x y z center m))

-- a prism over any outline, under an upright matrix, contains a point at a layer exactly where the plane lies strictly
-- between the placed ends and the placed outline winds round the point
pub record PlacedPrismsHold : Type 0 where
  pub each : (outline : List (ℤ × ℤ)) (low high : ℤ) (m : Matrix) → IsUpright m →
      HoldInside (placed_outline m outline) (placed_height m high) (placed_height m low) (stacked (two_rings m outline outline low high))

-- so does a cylinder of equal radii
pub record CylindersHold : Type 0 where
  pub each : (h r : ℤ) (n : ℕ) (center : Bool) (m : Matrix) → IsUpright m →
      HoldInside (placed_outline m (circle r n)) (placed_height m (start_of h center +ℤ h)) (placed_height m (start_of h center)) (stacked (cylinder_rings h r r n center m))
