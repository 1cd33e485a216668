-- Rounded products as numbers and as points.
use Rattle.std.proofs.Common.{◌≡◌, Bool, true, false, Ok, Err, Result, ℤ, refl, ap, sym, ◌∙◌, unsigned_abs}
use Rattle.std.specs.Prelude.{nat_le, if◌then◌else◌}
use Rattle.scad_num.specs.Number.{number_of, most}
use Rattle.scad_num.specs.declared.fault.NumFault.{NumFault}
use Rattle.scad_num.specs.declared.fault.NumFault.TheVariants as numbers
use Rattle.scad_geom.specs.declared.point3.Pt3.{Pt3}
use Rattle.scad_geom.specs.PointRange.{is_in_range}
use Rattle.scad_matrix.specs.declared.matrix.Matrix.{Matrix}
use Rattle.scad_matrix.specs.declared.matrix.MatrixFault.{MatrixFault}
use Rattle.scad_matrix.specs.declared.matrix.MatrixFault.TheVariants.{Range}
use Rattle.scad_matrix.specs.Matrix.{in_range, placed_point, placed}

-- a number by the test of its size, and the entry that it gives
abbrev as_number : Bool → ℤ → Result ℤ NumFault
as_number b z = if b then Ok z else Err numbers.Range

abbrev as_entry : Bool → ℤ → Result ℤ MatrixFault
as_entry b z = if b then Ok z else Err Range

entry_ok : (b : Bool) (z n : ℤ) → as_number b z ≡ Ok n → as_entry b z ≡ Ok n
entry_ok true z n e = let same : z ≡ n = cc in ap (λ k. Ok k) same
entry_ok false z n e = absurd (cc)

entry_err : (b : Bool) (z : ℤ) (f : NumFault) → as_number b z ≡ Err f → as_entry b z ≡ Err Range
entry_err true z f e = absurd (cc)
entry_err false z f e = refl

pub in_range-number : (z n : ℤ) → number_of z ≡ Ok n → in_range z ≡ Ok n
unfolding number_of
in_range-number z n e = entry_ok (nat_le (unsigned_abs z) most) z n e

pub in_range-none : (z : ℤ) (f : NumFault) → number_of z ≡ Err f → in_range z ≡ Err Range
unfolding number_of
in_range-none z f e = entry_err (nat_le (unsigned_abs z) most) z f e

pub placed-in_range : (m : Matrix) (x y z : ℤ) (p : Pt3) → p ≡ placed_point m x y z → is_in_range p ≡ true
    → placed m x y z ≡ Ok p
placed-in_range m x y z p is all =
    ap (λ b. if b then Ok (placed_point m x y z) else Err Range) (ap is_in_range (sym is) ∙ all) ∙ ap (λ q. Ok q)
    (sym is)
