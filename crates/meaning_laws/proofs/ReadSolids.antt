-- The arguments of primitives are never refused for want of memory.
use Rattle.std.proofs.Common.{ℤ, pos, List, length, Option, Some, None, Ok, codes}
use Rattle.std.specs.Int.{int_max}
use Rattle.scad_ast.specs.Tree.{Arguments}
use Rattle.scad_num.specs.Number.{one}
use Rattle.scad_value.specs.Datum.{Datum, undef, boolean, number, string, vector, range}
use Rattle.scad_modules.specs.declared.module.Shape.{Shape}
use Rattle.scad_modules.specs.declared.module.Shape.TheVariants.{Cube, Sphere, Cylinder, Polyhedron}
use Rattle.scad_modules.specs.Arguments.{taken}
use Rattle.scad_modules.specs.Reading.{Triple, radius_or}
use Rattle.scad_modules.specs.Shapes.{Fineness, resolution_of, fragments, all_sizes, three_sizes, given_sizes, sizes}
use Rattle.scad_modules.specs.Shapes.{height_of, common_radius, end_radius, cube_by, sphere_by, cylinder_of, faces_over}
use Rattle.scad_modules.specs.Shapes.{polyhedron_by, cylinder_by, primitive_of}
use Rattle.meaning_laws.proofs.Faults.{ok, bind}
use Rattle.meaning_laws.proofs.MemoryWants.{Reads, reads-number, reads-vector, reads-size, reads-size_of, reads-needed}
use Rattle.meaning_laws.proofs.MemoryWants.{reads-point, reads-some_points, reads-some_faces, reads-half, reads-radius}

-- ---- circles
pub reads-resolution : (fine : Fineness) → Reads (resolution_of fine)
reads-resolution fine =
    bind (reads-number fine.fn) (λ fn. bind (reads-number fine.fa) (λ fa. bind (reads-number fine.fs) (λ fs. ok)))

pub reads-fragments : (fine : Fineness) (radius : ℤ) → Reads (fragments fine radius)
reads-fragments fine radius = bind (reads-resolution fine) (λ r. ok)

pub reads-common : (d r : Option Datum) → Reads (common_radius d r)
reads-common d r = reads-half d (radius_or r (Ok (pos one))) (reads-radius r (Ok (pos one)) ok)

reads-end : (own_d own_r d r : Option Datum) → Reads (end_radius own_d own_r d r)
reads-end own_d own_r d r =
    reads-half own_d (radius_or own_r (common_radius d r)) (reads-radius own_r (common_radius d r) (reads-common d r))

-- ---- sizes
reads-all_sizes : (p : Triple) → Reads (all_sizes p)
reads-all_sizes p = bind (reads-size p.0) (λ x. bind (reads-size p.1) (λ y. bind (reads-size p.2) (λ z. ok)))

reads-three_sizes : (d : Datum) → Reads (three_sizes d)
reads-three_sizes d = bind (reads-point d) reads-all_sizes

reads-given : (d : Datum) → Reads (given_sizes d)
reads-given (number z) = bind (reads-size z) (λ size. ok)
reads-given undef = reads-three_sizes undef
reads-given (boolean b) = reads-three_sizes (boolean b)
reads-given (string chars) = reads-three_sizes (string chars)
reads-given (vector all) = reads-three_sizes (vector all)
reads-given (range a s b) = reads-three_sizes (range a s b)

reads-sizes : (d : Option Datum) → Reads (sizes d)
reads-sizes None = ok
reads-sizes (Some d) = reads-given d

reads-height : (d : Option Datum) → Reads (height_of d)
reads-height None = ok
reads-height (Some d) = reads-size_of d

-- ---- primitives
reads-cube : (size center : Option Datum) → Reads (cube_by size center)
reads-cube size center = bind (reads-sizes size) (λ p. ok)

reads-sphere : (fine : Fineness) (r d : Option Datum) → Reads (sphere_by fine r d)
reads-sphere fine r d = bind (reads-common d r) (λ radius. bind (reads-fragments fine radius) (λ n. ok))

reads-cylinder_of : (fine : Fineness) (height bottom top : ℤ) (center : Option Datum)
    → Reads (cylinder_of fine height bottom top center)
reads-cylinder_of fine height bottom top center = bind (reads-fragments fine (int_max bottom top)) (λ n. ok)

reads-cylinder : (fine : Fineness) (args : Arguments) (values : List Datum) → Reads (cylinder_by fine args values)
reads-cylinder fine args values =
    let r = taken None (codes "r") args values in
    let d = taken None (codes "d") args values in
    bind (reads-height (taken (Some 0) (codes "h") args values)) (λ height.
    bind (reads-end (taken None (codes "d1") args values) (taken (Some 1) (codes "r1") args values) d r) (λ bottom.
    bind (reads-end (taken None (codes "d2") args values) (taken (Some 2) (codes "r2") args values) d r) (λ top.
    reads-cylinder_of fine height bottom top (taken (Some 3) (codes "center") args values))))

reads-faces_over : (points : List Triple) (faces : Option Datum) → Reads (faces_over points faces)
reads-faces_over points faces =
    bind (reads-needed faces) (λ d. bind (reads-vector d) (λ all.
    bind (reads-some_faces (length points) all) (λ found. ok)))

reads-polyhedron : (points faces : Option Datum) → Reads (polyhedron_by points faces)
reads-polyhedron points faces =
    bind (reads-needed points) (λ d. bind (reads-vector d) (λ all.
    bind (reads-some_points all) (λ found. reads-faces_over found faces)))

pub reads-primitive : (s : Shape) (fine : Fineness) (args : Arguments) (values : List Datum)
    → Reads (primitive_of s fine args values)
unfolding primitive_of
reads-primitive Cube fine args values =
    reads-cube (taken (Some 0) (codes "size") args values) (taken (Some 1) (codes "center") args values)
reads-primitive Sphere fine args values =
    reads-sphere fine (taken (Some 0) (codes "r") args values) (taken (Some 1) (codes "d") args values)
reads-primitive Cylinder fine args values = reads-cylinder fine args values
reads-primitive Polyhedron fine args values =
    reads-polyhedron (taken (Some 0) (codes "points") args values) (taken (Some 1) (codes "faces") args values)
