-- The matrices of the transformations (OpenSCAD User Manual, "translate", "scale", "rotate", "mirror", "multmatrix").
use Rattle.std.specs.Prelude.{ℕ, List, if◌then◌else◌, ℤ, pos, negsuc, neg_ℤ, ◌+ℤ◌, ◌-ℤ◌, ◌*ℤ◌, ◌^◌, unsigned_abs}
use Rattle.std.specs.List.{slice_index_or}
use Rattle.scad_num.specs.Number.{one}
use Rattle.std.specs.Ordering.{int_eq}
use Rattle.scad_num.specs.Rounding.{half_away}
use Rattle.scad_cos.specs.Cosine.{cosine, sine}
use Rattle.scad_matrix.specs.declared.makers.Axis.{Axis}
use Rattle.scad_matrix.specs.declared.makers.Axis.TheVariants.{X, Y, Z}
use Rattle.scad_matrix.specs.declared.matrix.Row.{Row}
use Rattle.scad_matrix.specs.declared.matrix.Matrix.{Matrix}

abbrev pub row : ℤ → ℤ → ℤ → ℤ → Row
row x y z shift = record { x = x; y = y; z = z; shift = shift }

-- of the size of a rotation's angle, in thousandths of a degree
abbrev pub angle_limit : ℕ
angle_limit = 10 ^ 12

-- the shift by (x, y, z)
abbrev pub translation : ℤ → ℤ → ℤ → Matrix
translation x y z = record {
  x = row (pos one) (pos 0) (pos 0) x;
  y = row (pos 0) (pos one) (pos 0) y;
  z = row (pos 0) (pos 0) (pos one) z;
}

-- the scaling by x, y and z along the axes
abbrev pub scaling : ℤ → ℤ → ℤ → Matrix
scaling x y z = record {
  x = row x (pos 0) (pos 0) (pos 0);
  y = row (pos 0) y (pos 0) (pos 0);
  z = row (pos 0) (pos 0) z (pos 0);
}

-- the number of a list at a place
abbrev pub at : List ℤ → ℕ → ℤ
at ns i = slice_index_or ns i (pos 0)

-- three rows of four numbers, one after another
abbrev pub rows_of : List ℤ → Matrix
rows_of ns = record {
  x = row (at ns 0) (at ns 1) (at ns 2) (at ns 3);
  y = row (at ns 4) (at ns 5) (at ns 6) (at ns 7);
  z = row (at ns 8) (at ns 9) (at ns 10) (at ns 11);
}

-- the rotation about an axis by an angle in thousandths of a degree
abbrev pub rotation : Axis → ℤ → Matrix
rotation X angle = record {
  x = row (pos one) (pos 0) (pos 0) (pos 0);
  y = row (pos 0) (cosine angle) (neg_ℤ (sine angle)) (pos 0);
  z = row (pos 0) (sine angle) (cosine angle) (pos 0);
}
rotation Y angle = record {
  x = row (cosine angle) (pos 0) (sine angle) (pos 0);
  y = row (pos 0) (pos one) (pos 0) (pos 0);
  z = row (neg_ℤ (sine angle)) (pos 0) (cosine angle) (pos 0);
}
rotation Z angle = record {
  x = row (cosine angle) (neg_ℤ (sine angle)) (pos 0) (pos 0);
  y = row (sine angle) (cosine angle) (pos 0) (pos 0);
  z = row (pos 0) (pos 0) (pos one) (pos 0);
}

-- the square of a normal's length
abbrev pub square_of : ℤ → ℤ → ℤ → ℤ
square_of x y z = x *ℤ x +ℤ y *ℤ y +ℤ z *ℤ z

-- the entry on the diagonal for a coordinate of a normal: 1 - 2 v v / square, rounded to millionths
abbrev pub along : ℤ → ℤ → ℤ
along v square = half_away (pos one *ℤ square -ℤ pos 2000000 *ℤ (v *ℤ v)) (unsigned_abs square)

-- the entry for two coordinates of a normal: - 2 v w / square, rounded to millionths
abbrev pub across : ℤ → ℤ → ℤ → ℤ
across v w square = half_away (negsuc 1999999 *ℤ (v *ℤ w)) (unsigned_abs square)

-- the reflection in the plane through the origin with that normal; the identity where all three are 0
unfoldable pub reflection : ℤ → ℤ → ℤ → Matrix
reflection x y z =
    let square = square_of x y z in
    if int_eq square (pos 0) then translation (pos 0) (pos 0) (pos 0) else record {
      x = row (along x square) (across x y square) (across z x square) (pos 0);
      y = row (across x y square) (along y square) (across y z square) (pos 0);
      z = row (across z x square) (across y z square) (along z square) (pos 0);
    }
