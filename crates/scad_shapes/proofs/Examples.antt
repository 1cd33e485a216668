-- Worked examples of the definitions.
use Rattle.std.proofs.Common.{◌≡◌, List, [], ◌∷◌, true, false, Ok, Err, ℤ, pos, negsuc, refl}
use Rattle.scad_geom.specs.declared.point3.Pt3.{Pt3}
use Rattle.scad_solid.specs.declared.triangle.Triangle.{Triangle}
use Rattle.scad_solid.specs.Stack.{stacked}
use Rattle.scad_solid.specs.Surface.{is_closed}
use Rattle.scad_num.specs.Rounding.{half_up, half_away}
use Rattle.scad_cos.specs.Cosine.{cosine, sine, full_turn, half_turn, first_quarter, cosines}
use Rattle.scad_cos.specs.Circle.{vertex_angle_of}
use Rattle.scad_matrix.specs.declared.makers.Axis.TheVariants.{Z}
use Rattle.scad_matrix.specs.declared.matrix.Matrix.{Matrix}
use Rattle.scad_matrix.specs.Makers.{rotation, translation}
use Rattle.scad_shapes.specs.declared.count.Form.TheVariants.{Cube, Sphere, Cylinder, Polyhedron}
use Rattle.scad_shapes.specs.declared.fault.ShapeFault.TheVariants.{CoordinateRange, NotClosed}
use Rattle.scad_shapes.specs.Outline.{rectangle, circle}
use Rattle.scad_shapes.specs.Rings.{cube_rings, cylinder_rings, sphere_rings_of, solid_of_rings}
use Rattle.scad_shapes.specs.Polyhedron.{polyhedron_of}
use Rattle.scad_shapes.specs.Count.{triangles_of}

abbrev at : ℤ → ℤ → ℤ → Pt3
at x y z = record { x = x; y = y; z = z }

abbrev tri : Pt3 → Pt3 → Pt3 → Triangle
tri a b c = record { a = a; b = b; c = c }

abbrev straight : Matrix
straight = translation (pos 0) (pos 0) (pos 0)

-- the corners of a cube of 10 by 10 by 1, turned by 45 degrees
turned_cube : cube_rings (pos 10000000) (pos 10000000) (pos 1000000) false (rotation Z (pos 45000)) ≡
    (at (pos 0) (pos 0) (pos 1000) ∷ at (pos 7071) (pos 7071) (pos 1000) ∷ at (pos 0) (pos 14142) (pos 1000) ∷ at
    (negsuc 7070) (pos 7071) (pos 1000) ∷ []) ∷
    (at (pos 0) (pos 0) (pos 0) ∷ at (pos 7071) (pos 7071) (pos 0) ∷ at (pos 0) (pos 14142) (pos 0) ∷ at (negsuc 7070)
    (pos 7071) (pos 0) ∷ []) ∷ []
unfolding half_away half_up cosine sine full_turn half_turn first_quarter cosines vertex_angle_of
turned_cube = refl

-- half an odd size is rounded away from zero
centred_rectangle : rectangle (pos 3) (pos 10) true ≡
    (negsuc 1, negsuc 4) ∷
    (pos 1, negsuc 4) ∷
    (pos 1, pos 5) ∷
    (negsuc 1, pos 5) ∷ []
unfolding half_away half_up
centred_rectangle = refl

hexagon : circle (pos 5000000) 6 ≡
    (pos 5000000, pos 0) ∷
    (pos 2500000, pos 4330125) ∷
    (negsuc 2499999, pos 4330125) ∷
    (negsuc 4999999, pos 0) ∷
    (negsuc 2499999, negsuc 4330124) ∷
    (pos 2500000, negsuc 4330124) ∷ []
unfolding half_away half_up cosine sine full_turn half_turn first_quarter cosines vertex_angle_of
hexagon = refl

centred_cone : cylinder_rings (pos 2001000) (pos 1500000) (pos 0) 3 true straight ≡
    (at (pos 0) (pos 0) (pos 1001) ∷ at (pos 0) (pos 0) (pos 1001) ∷ at (pos 0) (pos 0) (pos 1001) ∷ []) ∷
    (at (pos 1500) (pos 0) (negsuc 1000) ∷ at (negsuc 749) (pos 1299) (negsuc 1000) ∷ at (negsuc 749) (negsuc 1298)
    (negsuc 1000) ∷ []) ∷ []
unfolding half_away half_up cosine sine full_turn half_turn first_quarter cosines vertex_angle_of
centred_cone = refl

small_sphere : sphere_rings_of (pos 2500000) 5 straight ≡
    (at (pos 1250) (pos 0) (pos 2165) ∷ at (pos 386) (pos 1189) (pos 2165) ∷ at (negsuc 1010) (pos 735) (pos 2165) ∷ at
    (negsuc 1010) (negsuc 734) (pos 2165) ∷ at (pos 386) (negsuc 1188) (pos 2165) ∷ []) ∷
    (at (pos 2500) (pos 0) (pos 0) ∷ at (pos 773) (pos 2378) (pos 0) ∷ at (negsuc 2022) (pos 1469) (pos 0) ∷ at
    (negsuc 2022) (negsuc 1468) (pos 0) ∷ at (pos 773) (negsuc 2377) (pos 0) ∷ []) ∷
    (at (pos 1250) (pos 0) (negsuc 2164) ∷ at (pos 386) (pos 1189) (negsuc 2164) ∷ at (negsuc 1010) (pos 735)
    (negsuc 2164) ∷ at (negsuc 1010) (negsuc 734) (negsuc 2164) ∷ at (pos 386) (negsuc 1188) (negsuc 2164) ∷ [])
    ∷ []
unfolding half_away half_up cosine sine full_turn half_turn first_quarter cosines vertex_angle_of
small_sphere = refl

box_of_triangles : solid_of_rings (cube_rings (pos 2000000) (pos 3000000) (pos 1000000) false straight) ≡
    Ok (
    tri (at (pos 0) (pos 3000) (pos 1000)) (at (pos 2000) (pos 3000) (pos 1000)) (at (pos 2000) (pos 0) (pos 1000)) ∷
    tri (at (pos 0) (pos 3000) (pos 1000)) (at (pos 2000) (pos 0) (pos 1000)) (at (pos 0) (pos 0) (pos 1000)) ∷
    tri (at (pos 0) (pos 0) (pos 1000)) (at (pos 2000) (pos 0) (pos 1000)) (at (pos 2000) (pos 0) (pos 0)) ∷
    tri (at (pos 0) (pos 0) (pos 1000)) (at (pos 2000) (pos 0) (pos 0)) (at (pos 0) (pos 0) (pos 0)) ∷
    tri (at (pos 2000) (pos 0) (pos 1000)) (at (pos 2000) (pos 3000) (pos 1000)) (at (pos 2000) (pos 3000) (pos 0)) ∷
    tri (at (pos 2000) (pos 0) (pos 1000)) (at (pos 2000) (pos 3000) (pos 0)) (at (pos 2000) (pos 0) (pos 0)) ∷
    tri (at (pos 2000) (pos 3000) (pos 1000)) (at (pos 0) (pos 3000) (pos 1000)) (at (pos 0) (pos 3000) (pos 0)) ∷
    tri (at (pos 2000) (pos 3000) (pos 1000)) (at (pos 0) (pos 3000) (pos 0)) (at (pos 2000) (pos 3000) (pos 0)) ∷
    tri (at (pos 0) (pos 3000) (pos 1000)) (at (pos 0) (pos 0) (pos 1000)) (at (pos 0) (pos 0) (pos 0)) ∷
    tri (at (pos 0) (pos 3000) (pos 1000)) (at (pos 0) (pos 0) (pos 0)) (at (pos 0) (pos 3000) (pos 0)) ∷
    tri (at (pos 0) (pos 0) (pos 0)) (at (pos 2000) (pos 0) (pos 0)) (at (pos 2000) (pos 3000) (pos 0)) ∷
    tri (at (pos 0) (pos 0) (pos 0)) (at (pos 2000) (pos 3000) (pos 0)) (at (pos 0) (pos 3000) (pos 0)) ∷ [])
unfolding half_away half_up stacked
box_of_triangles = refl

-- one micrometre past the limit
far_cube : solid_of_rings (cube_rings (pos 2000000) (pos 3000000) (pos 1000001000) false straight) ≡ Err CoordinateRange
unfolding half_away half_up
far_cube = refl

abbrev tetrahedron : List (ℤ × ℤ × ℤ)
tetrahedron =
    (pos 0, pos 0, pos 0) ∷ (pos 1000000, pos 0, pos 0) ∷ (pos 0, pos 1000000, pos 0) ∷ (pos 0, pos 0, pos 1000000) ∷ []

closed_faces : polyhedron_of tetrahedron ((0 ∷ 1 ∷ 2 ∷ []) ∷ (0 ∷ 3 ∷ 1 ∷ []) ∷ (1 ∷ 3 ∷ 2 ∷ []) ∷ (0 ∷ 2 ∷ 3 ∷ [])
    ∷ []) straight ≡ Ok (
    tri (at (pos 0) (pos 0) (pos 0)) (at (pos 1000) (pos 0) (pos 0)) (at (pos 0) (pos 1000) (pos 0)) ∷
    tri (at (pos 0) (pos 0) (pos 0)) (at (pos 0) (pos 0) (pos 1000)) (at (pos 1000) (pos 0) (pos 0)) ∷
    tri (at (pos 1000) (pos 0) (pos 0)) (at (pos 0) (pos 0) (pos 1000)) (at (pos 0) (pos 1000) (pos 0)) ∷
    tri (at (pos 0) (pos 0) (pos 0)) (at (pos 0) (pos 1000) (pos 0)) (at (pos 0) (pos 0) (pos 1000)) ∷ [])
unfolding half_away half_up is_closed
closed_faces = refl

turned_face : polyhedron_of tetrahedron ((0 ∷ 1 ∷ 2 ∷ []) ∷ (0 ∷ 3 ∷ 1 ∷ []) ∷ (1 ∷ 3 ∷ 2 ∷ []) ∷ (0 ∷ 3 ∷ 2 ∷ []) ∷ [])
    straight ≡ Err NotClosed
unfolding half_away half_up is_closed
turned_face = refl

count_of_cube : triangles_of Cube ≡ 12
count_of_cube = refl

-- of radius 5 under the default angle and side
count_of_sphere : triangles_of (Sphere 16) ≡ 252
count_of_sphere = refl

count_of_cylinder : triangles_of (Cylinder 6) ≡ 20
count_of_cylinder = refl

count_of_tetrahedron : triangles_of (Polyhedron 4) ≡ 4
count_of_tetrahedron = refl
