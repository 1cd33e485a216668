-- Worked examples of what the primitives contain.
use Rattle.std.proofs.Common.{◌≡◌, ℤ, pos, negsuc, Bool, true, false, ℕ, refl}
use Rattle.scad_geom.specs.Half.{centre}
use Rattle.scad_geom.specs.Winding.{is_over, passage_by, side_by, is_beyond, turn}
use Rattle.scad_solid.specs.Cut.{plane_of, contains}
use Rattle.scad_solid.specs.Stack.{stacked}
use Rattle.scad_num.specs.Rounding.{half_up, half_away}
use Rattle.scad_cos.specs.Cosine.{cosine, sine, full_turn, half_turn, first_quarter, cosines}
use Rattle.scad_cos.specs.Circle.{vertex_angle_of}
use Rattle.scad_matrix.specs.declared.matrix.Matrix.{Matrix}
use Rattle.scad_matrix.specs.Makers.{scaling, translation}
use Rattle.scad_shapes.specs.Rings.{cube_rings, cylinder_rings}
use Rattle.scad_shapes.specs.Laws.{last_corner}

-- a cube of 2 by 3 by 1 micrometres, mirrored along x
abbrev mirrored : Matrix
mirrored = scaling (negsuc 999999) (pos 1000000) (pos 1000000)

-- whether that contains the centre of the cell at (i, j) at a layer, for layers of 1 micrometre
abbrev cube_contains : ℕ → ℤ → ℤ → Bool
cube_contains layer i j = contains (plane_of layer 1)
    (stacked (cube_rings (pos 2000) (pos 3000) (pos 1000) false mirrored)) (centre i j)

in_mirrored_cube : cube_contains 0 (negsuc 1) (pos 2) ≡ true
unfolding turn is_beyond passage_by side_by is_over half_away half_up stacked
in_mirrored_cube = refl

past_mirrored_cube : cube_contains 0 (pos 0) (pos 2) ≡ false
unfolding turn is_beyond passage_by side_by is_over half_away half_up stacked
past_mirrored_cube = refl

over_mirrored_cube : cube_contains 1 (negsuc 1) (pos 2) ≡ false
unfolding turn is_beyond passage_by side_by is_over half_away half_up stacked
over_mirrored_cube = refl

corner_of_mirrored_cube : last_corner (pos 2000) (pos 3000) (pos 1000) false mirrored
    ≡ record { x = negsuc 1; y = pos 3; z = pos 1 }
unfolding half_away half_up
corner_of_mirrored_cube = refl

-- a cylinder of 6 fragments with the radius 5, for layers of 200 micrometres
abbrev hexagon_contains : ℤ → ℤ → Bool
hexagon_contains i j = contains (plane_of 0 200) (stacked (cylinder_rings (pos 1000000) (pos 5000000) (pos 5000000) 6
    false (translation (pos 0) (pos 0) (pos 0)))) (centre i j)

in_hexagon : hexagon_contains (pos 4999) (pos 0) ≡ true
unfolding turn is_beyond passage_by side_by is_over half_away half_up stacked cosine sine full_turn half_turn
    first_quarter cosines vertex_angle_of
in_hexagon = refl

past_hexagon : hexagon_contains (pos 4999) (pos 1) ≡ false
unfolding turn is_beyond passage_by side_by is_over half_away half_up stacked cosine sine full_turn half_turn
    first_quarter cosines vertex_angle_of
past_hexagon = refl
