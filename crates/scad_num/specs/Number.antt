-- Numbers as whole millionths of at most 10^15 in size, and what each operation gives. They stand in place of
-- the floating-point numbers of the OpenSCAD User Manual, "Numbers" and "Mathematical Operators".
use Rattle.std.specs.Prelude.{ℕ, zero, suc, ℤ, pos, negsuc, neg_ℤ, ◌+ℤ◌, ◌-ℤ◌, ◌*ℤ◌, unsigned_abs, int_rem, Result, Ok, Err, nat_le, if◌then◌else◌}
use Rattle.std.specs.Int.{int_div_euclid}
use Rattle.scad_num.specs.declared.fault.NumFault.{NumFault}
use Rattle.scad_num.specs.declared.fault.NumFault.TheVariants.{Range, ZeroDivisor}
use Rattle.scad_num.specs.Rounding.{half_away}

-- the millionths of 1
abbrev pub one : ℕ
one = 1000000

-- the most millionths that a number has, in either direction
abbrev pub most : ℕ
most = 1000000000000000

-- the number of so many millionths, or Range where they pass 10^15 in size
unfoldable pub number_of : ℤ → Result ℤ NumFault
number_of z = if nat_le (unsigned_abs z) most then Ok z else Err Range

abbrev pub sum_of : ℤ → ℤ → Result ℤ NumFault
sum_of a b = number_of (a +ℤ b)

abbrev pub difference_of : ℤ → ℤ → Result ℤ NumFault
difference_of a b = number_of (a -ℤ b)

abbrev pub product_of : ℤ → ℤ → Result ℤ NumFault
product_of a b = number_of (half_away (a *ℤ b) one)

-- n / d for a d of either sign but 0, rounded to the nearest whole number, a half away from zero
unfoldable pub half_away_over : ℤ → ℤ → ℤ
half_away_over n (pos d) = half_away n d
half_away_over n (negsuc d) = half_away (neg_ℤ n) (suc d)

-- a / b, or ZeroDivisor where b is 0
unfoldable pub quotient_of : ℤ → ℤ → Result ℤ NumFault
quotient_of a (pos zero) = Err ZeroDivisor
quotient_of a (pos (suc n)) = number_of (half_away_over (a *ℤ pos one) (pos (suc n)))
quotient_of a (negsuc n) = number_of (half_away_over (a *ℤ pos one) (negsuc n))

-- what a / b leaves, with the sign of a, or ZeroDivisor where b is 0
unfoldable pub remainder_of : ℤ → ℤ → Result ℤ NumFault
remainder_of a (pos zero) = Err ZeroDivisor
remainder_of a (pos (suc n)) = Ok (int_rem a (pos (suc n)))
remainder_of a (negsuc n) = Ok (int_rem a (negsuc n))

-- the greatest whole number that is not above z
unfoldable pub floor_of : ℤ → ℤ
floor_of z = int_div_euclid z (pos one) *ℤ pos one

-- the least whole number that is not below z
unfoldable pub ceil_of : ℤ → ℤ
ceil_of z = neg_ℤ (floor_of (neg_ℤ z))

-- the whole number nearest to z, a half away from zero
unfoldable pub round_of : ℤ → ℤ
round_of z = half_away z one *ℤ pos one

-- a length in millimetres as whole micrometres, rounded half away from zero
unfoldable pub micrometres_of : ℤ → ℤ
micrometres_of z = half_away z 1000
