-- What the arguments of a primitive say (OpenSCAD User Manual, "cube", "sphere", "cylinder", "polyhedron", "$fa,
-- $fs and $fn").
use Rattle.std.specs.Prelude.{ℕ, codes, List, ℤ, pos, length, Option, Some, None, Ok}
use Rattle.std.specs.Int.{int_max}
use Rattle.scad_base.specs.Results.{and_then}
use Rattle.scad_ast.specs.Tree.{Arguments}
use Rattle.scad_num.specs.Number.{one}
use Rattle.scad_cos.specs.Circle.{fragments_of}
use Rattle.scad_value.specs.Datum.{Datum, number}
use Rattle.scad_modules.specs.declared.fineness.Resolution.{Resolution}
use Rattle.scad_modules.specs.declared.module.Shape.{Shape}
use Rattle.scad_modules.specs.declared.module.Shape.TheVariants.{Cube, Sphere, Cylinder, Polyhedron}
use Rattle.scad_modules.specs.Arguments.{taken}
use Rattle.scad_modules.specs.Primitive.{Primitive, cube, sphere, cylinder, polyhedron}
use Rattle.scad_modules.specs.Reading.{Read, Triple, needed, as_number, as_vector, if_size, size_of, truth_of, point_of, half_or, radius_or, some_points, some_faces}

-- the values of `$fn`, `$fa` and `$fs` where a circle is made
pub record Fineness : Type 0 where
  pub fn : Datum
  pub fa : Datum
  pub fs : Datum

-- the three numbers; each of the values has to be one
abbrev pub resolution_of : Fineness → Read Resolution
resolution_of fine =
    and_then (as_number fine.fn) (λ fn. and_then (as_number fine.fa) (λ fa. and_then (as_number fine.fs)
    (λ fs. Ok (record { fn_ = fn; fa = fa; fs = fs }))))

-- the fragments of a circle of this radius
abbrev pub fragments : Fineness → ℤ → Read ℕ
fragments fine radius = and_then (resolution_of fine) (λ r. Ok (fragments_of radius r.fn_ r.fa r.fs))

-- each of three sizes
abbrev pub all_sizes : Triple → Read Triple
all_sizes p = and_then (if_size p.0) (λ x. and_then (if_size p.1) (λ y. and_then (if_size p.2) (λ z. Ok (x, y, z))))

-- one size along all axes
abbrev pub one_size : ℤ → Read Triple
one_size z = and_then (if_size z) (λ size. Ok (size, size, size))

abbrev pub three_sizes : Datum → Read Triple
three_sizes d = and_then (point_of d) all_sizes

-- a number or three numbers, none of them negative
abbrev pub given_sizes : Datum → Read Triple
given_sizes (number z) = one_size z
given_sizes d = three_sizes d

-- 1 where nothing is given
abbrev pub sizes : Option Datum → Read Triple
sizes None = Ok (pos one, pos one, pos one)
sizes (Some d) = given_sizes d

-- a number that isn't negative; 1 where nothing is given
abbrev pub height_of : Option Datum → Read ℤ
height_of None = Ok (pos one)
height_of (Some d) = size_of d

-- d / 2 if it is given, else r, else 1
abbrev pub common_radius : Option Datum → Option Datum → Read ℤ
common_radius d r = half_or d (radius_or r (Ok (pos one)))

-- the first given of its own d / 2, its own r, d / 2 and r, else 1
abbrev pub end_radius : Option Datum → Option Datum → Option Datum → Option Datum → Read ℤ
end_radius own_d own_r d r = half_or own_d (radius_or own_r (common_radius d r))

-- `cube(size, center)`
abbrev pub cube_by : Option Datum → Option Datum → Read Primitive
cube_by size center = and_then (sizes size) (λ p. Ok (cube p.0 p.1 p.2 (truth_of center)))

-- `sphere(r, d)`
abbrev pub sphere_by : Fineness → Option Datum → Option Datum → Read Primitive
sphere_by fine r d = and_then (common_radius d r) (λ radius. and_then (fragments fine radius)
    (λ n. Ok (sphere radius n)))

-- a cylinder of these sizes, whose fragments are those of the greater radius
abbrev pub cylinder_of : Fineness → ℤ → ℤ → ℤ → Option Datum → Read Primitive
cylinder_of fine height bottom top center =
    and_then (fragments fine (int_max bottom top)) (λ n. Ok (cylinder height bottom top n (truth_of center)))

-- the faces over these points
abbrev pub faces_over : List Triple → Option Datum → Read Primitive
faces_over points faces =
    and_then (needed faces) (λ d. and_then (as_vector d) (λ all. and_then (some_faces (length points) all) (λ found.
    Ok (polyhedron points found))))

-- `polyhedron(points, faces)`
abbrev pub polyhedron_by : Option Datum → Option Datum → Read Primitive
polyhedron_by points faces =
    and_then (needed points) (λ d. and_then (as_vector d) (λ all. and_then (some_points all)
    (λ found. faces_over found faces)))

-- `cylinder(h, r1, r2, center)`, and by name `r`, `d`, `d1` and `d2`
abbrev pub cylinder_by : Fineness → Arguments → List Datum → Read Primitive
cylinder_by fine args values =
    let r = taken None (codes "r") args values in
    let d = taken None (codes "d") args values in
    and_then (height_of (taken (Some 0) (codes "h") args values)) (λ height.
    and_then (end_radius (taken None (codes "d1") args values) (taken (Some 1) (codes "r1") args values) d r) (λ bottom.
    and_then (end_radius (taken None (codes "d2") args values) (taken (Some 2) (codes "r2") args values) d r) (λ top.
    cylinder_of fine height bottom top (taken (Some 3) (codes "center") args values))))

-- what the arguments of a primitive say
unfoldable pub primitive_of : Shape → Fineness → Arguments → List Datum → Read Primitive
primitive_of Cube fine args values =
    cube_by (taken (Some 0) (codes "size") args values) (taken (Some 1) (codes "center") args values)
primitive_of Sphere fine args values =
    sphere_by fine (taken (Some 0) (codes "r") args values) (taken (Some 1) (codes "d") args values)
primitive_of Cylinder fine args values = cylinder_by fine args values
primitive_of Polyhedron fine args values =
    polyhedron_by (taken (Some 0) (codes "points") args values) (taken (Some 1) (codes "faces") args values)
