-- The outlines of the primitives and their heights, in millionths of a millimetre, before they are placed (OpenSCAD
-- User Manual, "cube", "sphere", "cylinder"). An outline is the list of its points (x, y), counter-clockwise.
use Rattle.std.specs.Prelude.{ℕ, ◌+◌, ◌*◌, ◌/◌, List, [], ◌∷◌, Bool, map, if◌then◌else◌, ℤ, pos, neg_ℤ, ◌+ℤ◌, ◌*ℤ◌}
use Rattle.std.specs.List.{range_with_len}
use Rattle.scad_num.specs.Number.{one}
use Rattle.scad_num.specs.Rounding.{half_away}
use Rattle.scad_cos.specs.Cosine.{cosine, sine}
use Rattle.scad_cos.specs.Circle.{vertex_angle_of}

-- where a size begins along an axis: at 0, or half the size below it, rounded half away, where it is centred
abbrev pub start_of : ℤ → Bool → ℤ
start_of size center = if center then neg_ℤ (half_away size 2) else pos 0

-- the corners from (left, low) for an x and a y, from one over the side along x
abbrev pub corners_from : ℤ → ℤ → ℤ → ℤ → List (ℤ × ℤ)
corners_from left low x y = (left, low) ∷ (left +ℤ x, low) ∷ (left +ℤ x, low +ℤ y) ∷ (left, low +ℤ y) ∷ []

-- the rectangle of a cube
abbrev pub rectangle : ℤ → ℤ → Bool → List (ℤ × ℤ)
rectangle x y center = corners_from (start_of x center) (start_of y center) x y

-- a length times a cosine or a sine, rounded half away
abbrev pub part_of : ℤ → ℤ → ℤ
part_of r c = half_away (r *ℤ c) one

-- vertex i of the n of a circle of radius r
abbrev pub vertex : ℤ → ℕ → ℕ → ℤ × ℤ
vertex r n i = (part_of r (cosine (pos (vertex_angle_of i n))), part_of r (sine (pos (vertex_angle_of i n))))

-- the n vertices of a circle of radius r
abbrev pub circle : ℤ → ℕ → List (ℤ × ℤ)
circle r n = map (vertex r n) (range_with_len 0 n)

-- how many rings a sphere of n fragments has
abbrev pub sphere_rings : ℕ → ℕ
sphere_rings n = (n + 1) / 2

-- the angle between the upper end of the axis and ring i from the top of so many, in thousandths of a degree
abbrev pub polar_angle : ℕ → ℕ → ℕ
polar_angle rings i = (90000 * (2 * i + 1) + rings / 2) / rings
