-- The arguments of transformations are never refused for want of memory.
use Rattle.std.proofs.Common.{◌==◌, ◌&&◌, ℤ, pos, List, nat_le, Option, Some, None, Result, Ok, Err, codes}
use Rattle.std.specs.Ordering.{int_eq}
use Rattle.scad_ast.specs.Tree.{Arguments}
use Rattle.scad_num.specs.Number.{one}
use Rattle.scad_matrix.specs.declared.matrix.Matrix.{Matrix}
use Rattle.scad_matrix.specs.declared.matrix.MatrixFault.{MatrixFault}
use Rattle.scad_matrix.specs.declared.matrix.MatrixFault.TheVariants.{Range}
use Rattle.scad_matrix.specs.declared.makers.Axis.TheVariants.{X, Y, Z}
use Rattle.scad_matrix.specs.Matrix.{composed}
use Rattle.scad_value.specs.Datum.{Datum, undef, boolean, number, string, vector, range, Elements}
use Rattle.scad_value.specs.Products.{nth, count}
use Rattle.scad_modules.specs.declared.module.Transform.{Transform}
use Rattle.scad_modules.specs.declared.module.Transform.TheVariants.{Translate, Scale, Rotate, Mirror, Multmatrix}
use Rattle.scad_modules.specs.Arguments.{taken}
use Rattle.scad_modules.specs.Reading.{Triple}
use Rattle.scad_modules.specs.Transforms.{translate_by, scale_by_three, scale_by, mirror_by, row_at, row_of}
use Rattle.scad_modules.specs.Transforms.{first_three}
use Rattle.scad_modules.specs.Transforms.{multmatrix_by, angle_of, about_axis, turned_about, in_range, turned_by}
use Rattle.scad_modules.specs.Transforms.{rotate_by}
use Rattle.scad_modules.specs.Transforms.{matrix_of, product, turned}
use Rattle.meaning_laws.proofs.Faults.{ok, err, bind, either}
use Rattle.meaning_laws.proofs.MemoryWants.{Reads, bad, reads-vector, reads-needed, reads-at, reads-coordinates, reads-point}

-- ---- `translate`, `scale`, `mirror`
reads-translate : (v : Datum) → Reads (translate_by v)
reads-translate v = bind (reads-coordinates (pos 0) v) (λ p. ok)

reads-scale_three : (v : Datum) → Reads (scale_by_three v)
reads-scale_three v = bind (reads-coordinates (pos one) v) (λ p. ok)

reads-scale : (v : Datum) → Reads (scale_by v)
reads-scale (number z) = ok
reads-scale undef = reads-scale_three undef
reads-scale (boolean b) = reads-scale_three (boolean b)
reads-scale (string chars) = reads-scale_three (string chars)
reads-scale (vector all) = reads-scale_three (vector all)
reads-scale (range a s b) = reads-scale_three (range a s b)

reads-mirror : (v : Datum) → Reads (mirror_by v)
reads-mirror v = bind (reads-coordinates (pos 0) v) (λ p. ok)

-- ---- `multmatrix`
reads-row_at : (all : Elements) → Reads (row_at all)
reads-row_at all =
    bind (reads-at all 0 (pos 0)) (λ x. bind (reads-at all 1 (pos 0)) (λ y.
    bind (reads-at all 2 (pos 0)) (λ z. bind (reads-at all 3 (pos 0)) (λ shift. ok))))

reads-row : (d : Datum) → Reads (row_of d)
reads-row d = bind (reads-vector d) (λ all. either (count all == 4) (reads-row_at all) bad)

reads-first_three : (all : Elements) → Reads (first_three all)
unfolding first_three
reads-first_three all =
    bind (reads-row (nth all 0)) (λ x. bind (reads-row (nth all 1)) (λ y. bind (reads-row (nth all 2)) (λ z. ok)))

reads-multmatrix : (m : Datum) → Reads (multmatrix_by m)
reads-multmatrix m =
    bind (reads-vector m) (λ all. either (nat_le 3 (count all) && nat_le (count all) 4) (reads-first_three all) bad)

-- ---- `rotate`
reads-about : (angle : ℤ) (p : Triple) → Reads (about_axis angle p)
reads-about angle p =
    either (int_eq p.1 (pos 0))
    (either (int_eq p.2 (pos 0)) (either (int_eq p.0 (pos 0)) bad ok) (either (int_eq p.0 (pos 0)) ok (err tt)))
    (either (int_eq p.2 (pos 0)) (either (int_eq p.0 (pos 0)) ok (err tt)) (err tt))

reads-turned_about : (degrees : ℤ) (v : Option Datum) → Reads (turned_about degrees v)
reads-turned_about degrees None = ok
reads-turned_about degrees (Some v) = bind (reads-point v) (reads-about (angle_of degrees))

reads-in_range : (r : Result Matrix MatrixFault) → Reads (in_range r)
reads-in_range (Ok m) = ok
reads-in_range (Err Range) = err tt

reads-product : (a b : Matrix) → Reads (product a b)
reads-product a b = reads-in_range (composed a b)

reads-degrees : (a : Datum) → Reads (turned_by a)
reads-degrees a =
    bind (reads-coordinates (pos 0) a) (λ p. bind (reads-product (turned Z p.2) (turned Y p.1)) (λ zy.
    reads-product zy (turned X p.0)))

reads-rotate : (a : Datum) (v : Option Datum) → Reads (rotate_by a v)
reads-rotate (number z) v = reads-turned_about z v
reads-rotate undef v = reads-degrees undef
reads-rotate (boolean b) v = reads-degrees (boolean b)
reads-rotate (string chars) v = reads-degrees (string chars)
reads-rotate (vector all) v = reads-degrees (vector all)
reads-rotate (range a s b) v = reads-degrees (range a s b)

pub reads-matrix : (t : Transform) (args : Arguments) (values : List Datum) → Reads (matrix_of t args values)
unfolding matrix_of
reads-matrix Translate args values = bind (reads-needed (taken (Some 0) (codes "v") args values)) reads-translate
reads-matrix Scale args values = bind (reads-needed (taken (Some 0) (codes "v") args values)) reads-scale
reads-matrix Rotate args values =
    bind (reads-needed (taken (Some 0) (codes "a") args values))
    (λ d. reads-rotate d (taken (Some 1) (codes "v") args values))
reads-matrix Mirror args values = bind (reads-needed (taken (Some 0) (codes "v") args values)) reads-mirror
reads-matrix Multmatrix args values = bind (reads-needed (taken (Some 0) (codes "m") args values)) reads-multmatrix
