-- Functions of numbers (OpenSCAD User Manual, "Mathematical Functions", "Trigonometric Functions"), over whole millionths.
use Rattle.std.specs.Prelude.{ℕ, ◌*◌, List, [], ◌∷◌, fold, ℤ, pos, ◌*ℤ◌, unsigned_abs, int_div, int_lt, Result, Ok, Err, if◌then◌else◌}
use Rattle.std.specs.Int.{int_signum}
use Rattle.scad_num.specs.declared.fault.NumFault.{NumFault}
use Rattle.scad_num.specs.Number.{one, number_of, sum_of, difference_of, product_of, quotient_of}
use Rattle.scad_num.specs.Rounding.{half_away}
use Rattle.scad_num.specs.Root.{sqrt_of}
use Rattle.scad_cos.specs.Cosine.{sine, cosine}
use Rattle.scad_builtin.specs.Fault.{judged, and_then}
use Rattle.scad_builtin.specs.declared.fault.BuiltinFault.{BuiltinFault}
use Rattle.scad_builtin.specs.declared.fault.BuiltinFault.TheVariants.{BadArgument}

-- the size
abbrev pub size_of : ℤ → ℤ
size_of z = pos (unsigned_abs z)

-- -1, 0 or 1
abbrev pub sign_of : ℤ → ℤ
sign_of z = int_signum z *ℤ pos one

-- the square root, of a number that isn't negative
abbrev pub root_of : ℤ → Result ℤ BuiltinFault
root_of z = if int_lt z (pos 0) then Err BadArgument else Ok (sqrt_of z)

-- degrees as thousandths of a degree, rounded half away from zero
abbrev pub angle_of : ℤ → ℤ
angle_of degrees = half_away degrees 1000

abbrev pub sine_of : ℤ → ℤ
sine_of degrees = sine (angle_of degrees)

abbrev pub cosine_of : ℤ → ℤ
cosine_of degrees = cosine (angle_of degrees)

-- the sine over the cosine, or ZeroDivisor where the cosine is 0
abbrev pub tangent_of : ℤ → Result ℤ BuiltinFault
tangent_of degrees = judged (quotient_of (sine_of degrees) (cosine_of degrees))

-- the number cut to a whole one
abbrev pub cut_of : ℤ → ℤ
cut_of z = int_div z (pos one)

-- the number chosen from one or more
abbrev pub chosen : (ℤ → ℤ → ℤ) → List ℤ → Result ℤ BuiltinFault
chosen choose [] = Err BadArgument
chosen choose (z ∷ more) = Ok (fold choose z more)

-- the squares added to a total from left to right, each a product and each sum a sum of numbers
abbrev pub squares_onto : ℤ → List ℤ → Result ℤ NumFault
squares_onto total [] = Ok total
squares_onto total (z ∷ more) = and_then (product_of z z) (λ square. and_then (sum_of total square) (λ sum. squares_onto sum more))

-- the square root of the sum of squares
abbrev pub norm_of : List ℤ → Result ℤ BuiltinFault
norm_of zs = judged (and_then (squares_onto (pos 0) zs) (λ sum. Ok (sqrt_of sum)))

-- a * d - b * c
abbrev pub minor_of : ℤ → ℤ → ℤ → ℤ → Result ℤ NumFault
minor_of a b c d = and_then (product_of a d) (λ ad. and_then (product_of b c) (λ bc. difference_of ad bc))

-- a count as a number, where it is in range
abbrev pub whole_number : ℕ → Result ℤ BuiltinFault
whole_number n = judged (number_of (pos (n * one)))
