-- Outlines of flat shapes, in millionths of a millimetre, before they are placed (OpenSCAD User Manual, "2D
-- Primitives").
use Rattle.std.specs.Prelude.{ℕ, ℤ, Bool, true, nat_le, List, length}
use Rattle.scad_shapes.specs.Outline.{rectangle, circle}
use Rattle.scad_modules.specs.Primitive.{are_fragments}

-- a point, or a vector of two coordinates
abbrev pub Pair : Type 0
Pair = ℤ × ℤ

pub data Outline : Type 0 where
  -- sizes along x and y, centred or not
  square : ℤ → ℤ → Bool → Outline
  -- radius, fragments
  round : ℤ → ℕ → Outline
  -- the points in order
  path : List Pair → Outline

-- how many points the outline has
abbrev pub points_in : Outline → ℕ
points_in (square x y center) = 4
points_in (round r n) = n
points_in (path points) = length points

-- the points of the outline in order
abbrev pub ring_of : Outline → List Pair
ring_of (square x y center) = rectangle x y center
ring_of (round r n) = circle r n
ring_of (path points) = points

-- what each outline keeps that arguments say: three points at least
abbrev pub is_outline : Outline → Bool
is_outline (square x y center) = true
is_outline (round r n) = are_fragments n
is_outline (path points) = nat_le 3 (length points)
