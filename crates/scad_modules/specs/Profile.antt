-- Profiles that are turned round the z axis (OpenSCAD User Manual, "rotate_extrude").
use Rattle.std.specs.Prelude.{ℕ, pos, int_lt, unsigned_abs, max, Bool, ◌&&◌, List, [], ◌∷◌, ◌++◌, Result, Ok, Err}
use Rattle.std.specs.List.{list_any}
use Rattle.scad_base.specs.Results.{and_then}
use Rattle.scad_cos.specs.Circle.{fragments_of}
use Rattle.scad_matrix.specs.declared.matrix.Matrix.{Matrix}
use Rattle.scad_matrix.specs.declared.matrix.MatrixFault.{MatrixFault}
use Rattle.scad_matrix.specs.declared.matrix.MatrixFault.TheVariants.{Range}
use Rattle.scad_matrix.specs.Matrix.{placed_profile}
use Rattle.scad_modules.specs.declared.fault.ArgumentFault.TheVariants.{NumberRange}
use Rattle.scad_modules.specs.declared.fineness.Resolution.{Resolution}
use Rattle.scad_modules.specs.Outline.{Pair}
use Rattle.scad_modules.specs.Reading.{Read}

abbrev pub in_numbers : Result Pair MatrixFault → Read Pair
in_numbers (Ok p) = Ok p
in_numbers (Err Range) = Err NumberRange

-- a point of an outline, placed by the matrix of the profile
abbrev pub profile_point : Matrix → Pair → Read Pair
profile_point m p = in_numbers (placed_profile m p.0 p.1)

-- the placed points of an outline, behind those so far
abbrev pub profile_onto : Matrix → List Pair → List Pair → Read (List Pair)
profile_onto m so_far [] = Ok so_far
profile_onto m so_far (p ∷ more) = and_then (profile_point m p) (λ q. profile_onto m (so_far ++ q ∷ []) more)

-- the placed points of an outline, or NumberRange where a number is out of range
abbrev pub profile_of : Matrix → List Pair → Read (List Pair)
profile_of m ring = profile_onto m [] ring

abbrev pub is_left : Pair → Bool
is_left p = int_lt p.0 (pos 0)

abbrev pub is_right : Pair → Bool
is_right p = int_lt (pos 0) p.0

-- it has points on both sides of the axis
abbrev pub crosses_axis : List Pair → Bool
crosses_axis ring = list_any is_left ring && list_any is_right ring

-- how far from the axis its farthest point is
abbrev pub farthest : List Pair → ℕ
farthest [] = 0
farthest (p ∷ more) = max (unsigned_abs p.0) (farthest more)

-- in how many turns it goes round the axis: as many as a circle through its farthest point has fragments
abbrev pub turns_of : Resolution → List Pair → ℕ
turns_of r ring = fragments_of (pos (farthest ring)) r.fn_ r.fa r.fs
