-- The matrices of the transformations by their arguments (OpenSCAD User Manual, "translate", "scale", "rotate",
-- "mirror", "multmatrix").
use Rattle.std.specs.Prelude.{codes, ℕ, List, ◌==◌, ◌&&◌, nat_le, ℤ, pos, neg_ℤ, int_lt, Option, Some, None, Result, Ok, Err, if◌then◌else◌}
use Rattle.std.specs.Ordering.{int_eq}
use Rattle.scad_base.specs.Results.{and_then}
use Rattle.scad_ast.specs.Tree.{Arguments}
use Rattle.scad_num.specs.Number.{one}
use Rattle.scad_num.specs.Rounding.{half_away}
use Rattle.scad_value.specs.Datum.{Datum, number, Elements}
use Rattle.scad_value.specs.Products.{nth, count}
use Rattle.scad_matrix.specs.declared.makers.Axis.{Axis}
use Rattle.scad_matrix.specs.declared.makers.Axis.TheVariants.{X, Y, Z}
use Rattle.scad_matrix.specs.declared.matrix.Row.{Row}
use Rattle.scad_matrix.specs.declared.matrix.Matrix.{Matrix}
use Rattle.scad_matrix.specs.declared.matrix.MatrixFault.{MatrixFault}
use Rattle.scad_matrix.specs.declared.matrix.MatrixFault.TheVariants.{Range}
use Rattle.scad_matrix.specs.Makers.{row, translation, scaling, rotation, reflection}
use Rattle.scad_matrix.specs.Matrix.{composed}
use Rattle.scad_modules.specs.declared.module.Transform.{Transform}
use Rattle.scad_modules.specs.declared.module.Transform.TheVariants.{Translate, Scale, Rotate, Mirror, Multmatrix}
use Rattle.scad_modules.specs.declared.fault.ArgumentFault.TheVariants.{BadArgument, LeftOut, NumberRange}
use Rattle.scad_modules.specs.Arguments.{taken}
use Rattle.scad_modules.specs.Reading.{Read, Triple, needed, number_at, as_vector, coordinates, point_of}

-- `translate(v)`: one to three numbers, missing ones 0
abbrev pub translate_by : Datum → Read Matrix
translate_by v = and_then (coordinates (pos 0) v) (λ p. Ok (translation p.0 p.1 p.2))

abbrev pub scale_by_three : Datum → Read Matrix
scale_by_three v = and_then (coordinates (pos one) v) (λ p. Ok (scaling p.0 p.1 p.2))

-- `scale(v)`: a number, or one to three numbers, missing ones 1
abbrev pub scale_by : Datum → Read Matrix
scale_by (number z) = Ok (scaling z z z)
scale_by v = scale_by_three v

-- `mirror(v)`: one to three numbers, missing ones 0; the identity where all are 0
abbrev pub mirror_by : Datum → Read Matrix
mirror_by v = and_then (coordinates (pos 0) v) (λ p. Ok (reflection p.0 p.1 p.2))

abbrev pub row_at : Elements → Read Row
row_at all =
    and_then (number_at all 0 (pos 0)) (λ x. and_then (number_at all 1 (pos 0)) (λ y.
    and_then (number_at all 2 (pos 0)) (λ z. and_then (number_at all 3 (pos 0)) (λ shift. Ok (row x y z shift)))))

-- four numbers
abbrev pub row_of_four : Elements → Read Row
row_of_four all = if count all == 4 then row_at all else Err BadArgument

abbrev pub row_of : Datum → Read Row
row_of d = and_then (as_vector d) row_of_four

unfoldable pub first_three : Elements → Read Matrix
first_three all =
    and_then (row_of (nth all 0)) (λ x. and_then (row_of (nth all 1)) (λ y. and_then (row_of (nth all 2)) (λ z.
    Ok (record { x = x; y = y; z = z }))))

-- three or four rows, of which the fourth isn't read
abbrev pub rows_of : Elements → Read Matrix
rows_of all = if nat_le 3 (count all) && nat_le (count all) 4 then first_three all else Err BadArgument

-- `multmatrix(m)`
abbrev pub multmatrix_by : Datum → Read Matrix
multmatrix_by m = and_then (as_vector m) rows_of

-- degrees as thousandths of a degree, rounded half away
abbrev pub angle_of : ℤ → ℤ
angle_of degrees = half_away degrees 1000

-- the rotation about an axis by degrees
abbrev pub turned : Axis → ℤ → Matrix
turned axis degrees = rotation axis (angle_of degrees)

-- the other way round about an axis that is given by a negative number
abbrev pub way_round : ℤ → ℤ → ℤ
way_round length angle = if int_lt length (pos 0) then neg_ℤ angle else angle

abbrev pub about : Axis → ℤ → ℤ → Matrix
about axis length angle = rotation axis (way_round length angle)

-- the rotation about the one coordinate that isn't 0: bad where all are 0, left out where several aren't
abbrev pub about_axis : ℤ → Triple → Read Matrix
about_axis angle p =
    if int_eq p.1 (pos 0) then
    (if int_eq p.2 (pos 0) then (if int_eq p.0 (pos 0) then Err BadArgument else Ok (about X p.0 angle))
    else (if int_eq p.0 (pos 0) then Ok (about Z p.2 angle) else Err LeftOut))
    else
    (if int_eq p.2 (pos 0) then (if int_eq p.0 (pos 0) then Ok (about Y p.1 angle) else Err LeftOut)
    else Err LeftOut)

-- a number of degrees: about z, or about the axis that is given
abbrev pub turned_about : ℤ → Option Datum → Read Matrix
turned_about degrees None = Ok (turned Z degrees)
turned_about degrees (Some v) = and_then (point_of v) (about_axis (angle_of degrees))

-- a product of matrices, or a number out of range
abbrev pub in_range : Result Matrix MatrixFault → Read Matrix
in_range (Ok m) = Ok m
in_range (Err Range) = Err NumberRange

abbrev pub product : Matrix → Matrix → Read Matrix
product a b = in_range (composed a b)

-- three numbers of degrees: about x, then about y, then about z
abbrev pub turned_by_three : Triple → Read Matrix
turned_by_three p = and_then (product (turned Z p.2) (turned Y p.1)) (λ zy. product zy (turned X p.0))

-- one to three numbers of degrees, missing ones 0
abbrev pub turned_by : Datum → Read Matrix
turned_by a = and_then (coordinates (pos 0) a) turned_by_three

-- `rotate(a, v)`
abbrev pub rotate_by : Datum → Option Datum → Read Matrix
rotate_by (number z) v = turned_about z v
rotate_by a v = turned_by a

-- the name of a transformation's first argument
abbrev pub first_name : Transform → List ℕ
first_name Translate = codes "v"
first_name Scale = codes "v"
first_name Rotate = codes "a"
first_name Mirror = codes "v"
first_name Multmatrix = codes "m"

-- the matrix that it says, with the arguments behind it
abbrev pub matrix_by : Transform → Datum → Arguments → List Datum → Read Matrix
matrix_by Translate d args values = translate_by d
matrix_by Scale d args values = scale_by d
matrix_by Rotate d args values = rotate_by d (taken (Some 1) (codes "v") args values)
matrix_by Mirror d args values = mirror_by d
matrix_by Multmatrix d args values = multmatrix_by d

-- the matrix that a transformation's arguments say; each has to have its first one
unfoldable pub matrix_of : Transform → Arguments → List Datum → Read Matrix
matrix_of Translate args values = and_then (needed (taken (Some 0) (codes "v") args values)) translate_by
matrix_of Scale args values = and_then (needed (taken (Some 0) (codes "v") args values)) scale_by
matrix_of Rotate args values =
    and_then (needed (taken (Some 0) (codes "a") args values)) (λ d. rotate_by d (taken (Some 1) (codes "v") args values))
matrix_of Mirror args values = and_then (needed (taken (Some 0) (codes "v") args values)) mirror_by
matrix_of Multmatrix args values = and_then (needed (taken (Some 0) (codes "m") args values)) multmatrix_by
