-- Products of matrices and placed points (OpenSCAD User Manual, "Transformations").
use Rattle.std.specs.Prelude.{ℕ, nat_le, if◌then◌else◌, Option, Some, None, Result, Ok, Err, ℤ, pos, ◌+ℤ◌, ◌*ℤ◌, unsigned_abs}
use Rattle.scad_base.specs.Results.{and_then}
use Rattle.scad_num.specs.Number.{one, most}
use Rattle.scad_num.specs.Rounding.{half_away}
use Rattle.scad_geom.specs.declared.point3.Pt3.{Pt3}
use Rattle.scad_geom.specs.Limits.{point_limit}
use Rattle.scad_geom.specs.PointRange.{is_in_range}
use Rattle.scad_matrix.specs.declared.matrix.Row.{Row}
use Rattle.scad_matrix.specs.declared.matrix.Matrix.{Matrix}
use Rattle.scad_matrix.specs.declared.matrix.MatrixFault.{MatrixFault}
use Rattle.scad_matrix.specs.declared.matrix.MatrixFault.TheVariants.{Range}

-- the exact product of a row and a column with its last entry, in millionths of millionths
abbrev pub dot : Row → ℤ → ℤ → ℤ → ℤ → ℤ
dot r x y z last = r.x *ℤ x +ℤ r.y *ℤ y +ℤ r.z *ℤ z +ℤ r.shift *ℤ last

-- an entry of a product: the exact sum of products, rounded once
abbrev pub entry : Row → ℤ → ℤ → ℤ → ℤ → ℤ
entry r x y z last = half_away (dot r x y z last) one

-- the number of so many millionths, or Range where they pass 10^15 in size
abbrev pub in_range : ℤ → Result ℤ MatrixFault
in_range z = if nat_le (unsigned_abs z) most then Ok z else Err Range

abbrev pub entry_number : Row → ℤ → ℤ → ℤ → ℤ → Result ℤ MatrixFault
entry_number r x y z last = in_range (entry r x y z last)

-- a row times a matrix, whose fourth row is 0, 0, 0, 1
abbrev pub row_number : Row → Matrix → Result Row MatrixFault
row_number r b =
    and_then (entry_number r b.x.x b.y.x b.z.x (pos 0)) (λ x.
    and_then (entry_number r b.x.y b.y.y b.z.y (pos 0)) (λ y.
    and_then (entry_number r b.x.z b.y.z b.z.z (pos 0)) (λ z.
    and_then (entry_number r b.x.shift b.y.shift b.z.shift (pos one)) (λ shift.
    Ok (record { x = x; y = y; z = z; shift = shift })))))

-- a matrix times another, or Range where an entry is out of range
abbrev pub composed : Matrix → Matrix → Result Matrix MatrixFault
composed a b =
    and_then (row_number a.x b) (λ x.
    and_then (row_number a.y b) (λ y.
    and_then (row_number a.z b) (λ z.
    Ok (record { x = x; y = y; z = z }))))

-- how many millionths of millionths of a millimetre a micrometre has
abbrev pub micrometre : ℕ
micrometre = 1000000000

-- a placed coordinate: the exact product of a row and a point, rounded once to whole micrometres
abbrev pub placed_coordinate : Row → ℤ → ℤ → ℤ → ℤ
placed_coordinate r x y z = half_away (dot r x y z (pos one)) micrometre

-- a coordinate of a solid, where it is in range
abbrev pub coordinate_in_range : ℤ → Option ℤ
coordinate_in_range z = if nat_le (unsigned_abs z) point_limit then Some z else None

abbrev pub placed_point : Matrix → ℤ → ℤ → ℤ → Pt3
placed_point m x y z = record { x = placed_coordinate m.x x y z; y = placed_coordinate m.y x y z; z = placed_coordinate m.z x y z }

-- the placed point, or Range where a coordinate is out of range
abbrev pub placed : Matrix → ℤ → ℤ → ℤ → Result Pt3 MatrixFault
placed m x y z = if is_in_range (placed_point m x y z) then Ok (placed_point m x y z) else Err Range

-- the matrix inside an extrusion, where it acts by its x and y rows and columns alone: neither row reads z, and z is left
-- as it is
abbrev pub flattened : Matrix → Matrix
flattened m = record {
  x = record { x = m.x.x; y = m.x.y; z = pos 0; shift = m.x.shift };
  y = record { x = m.y.x; y = m.y.y; z = pos 0; shift = m.y.shift };
  z = record { x = pos 0; y = pos 0; z = pos one; shift = pos 0 };
}

-- the placed point of a profile, in millionths: each number the exact sum of products, rounded once, or Range where one is
-- out of range
abbrev pub placed_profile : Matrix → ℤ → ℤ → Result (ℤ × ℤ) MatrixFault
placed_profile m x y =
    and_then (entry_number m.x x y (pos 0) (pos one)) (λ across.
    and_then (entry_number m.y x y (pos 0) (pos one)) (λ along.
    Ok (across, along)))
