-- Primitive solids with their sizes, in millionths of a millimetre, before they are placed (OpenSCAD User Manual,
-- "Primitive Solids"): how many triangles each has, and the solid that it is under a matrix.
use Rattle.std.specs.Prelude.{ℕ, ℤ, Bool, true, ◌&&◌, nat_le, List, length, Result}
use Rattle.std.specs.List.{list_all}
use Rattle.scad_solid.specs.declared.triangle.Triangle.{Triangle}
use Rattle.scad_solid.specs.Solid.{names_points}
use Rattle.scad_cos.specs.Circle.{fragment_limit}
use Rattle.scad_matrix.specs.declared.matrix.Matrix.{Matrix}
use Rattle.scad_shapes.specs.declared.fault.ShapeFault.{ShapeFault}
use Rattle.scad_shapes.specs.Count.{sphere_triangles, prism_triangles, face_triangles}
use Rattle.scad_shapes.specs.Rings.{cube_rings, cylinder_rings, sphere_rings_of, solid_of_rings}
use Rattle.scad_shapes.specs.Polyhedron.{polyhedron_of}
use Rattle.scad_modules.specs.Reading.{Triple}

pub data Primitive : Type 0 where
  -- sizes along x, y and z, centred or not
  cube : ℤ → ℤ → ℤ → Bool → Primitive
  -- radius, fragments
  sphere : ℤ → ℕ → Primitive
  -- height, the radii of bottom and top, fragments, centred or not
  cylinder : ℤ → ℤ → ℤ → ℕ → Bool → Primitive
  -- points, faces
  polyhedron : List Triple → List (List ℕ) → Primitive

-- how many triangles the primitive has
abbrev pub triangles_of : Primitive → ℕ
triangles_of (cube x y z center) = 12
triangles_of (sphere r n) = sphere_triangles n
triangles_of (cylinder h bottom top n center) = prism_triangles n
triangles_of (polyhedron points faces) = face_triangles faces

-- the placed solid, or why there is none
abbrev pub solid_of : Primitive → Matrix → Result (List Triangle) ShapeFault
solid_of (cube x y z center) m = solid_of_rings (cube_rings x y z center m)
solid_of (sphere r n) m = solid_of_rings (sphere_rings_of r n m)
solid_of (cylinder h bottom top n center) m = solid_of_rings (cylinder_rings h bottom top n center m)
solid_of (polyhedron points faces) m = polyhedron_of points faces m

-- a circle has three fragments at least, and no more than the limit
abbrev pub are_fragments : ℕ → Bool
are_fragments n = nat_le 3 n && nat_le n fragment_limit

-- a face has three points at least, and names points alone
abbrev pub is_face : ℕ → List ℕ → Bool
is_face count face = nat_le 3 (length face) && names_points count face

-- what each primitive keeps that arguments say; a polyhedron has a face at least
abbrev pub is_primitive : Primitive → Bool
is_primitive (cube x y z center) = true
is_primitive (sphere r n) = are_fragments n
is_primitive (cylinder h bottom top n center) = are_fragments n
is_primitive (polyhedron points faces) = nat_le 1 (length faces) && list_all (is_face (length points)) faces
