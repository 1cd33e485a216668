-- Worked examples of the definitions.
use Rattle.std.proofs.Common.{◌≡◌, pos, negsuc, codes, Ok, Err, refl}
use Rattle.scad_num.specs.declared.fault.NumFault.TheVariants.{Range, ZeroDivisor}
use Rattle.scad_num.specs.Literal.{mantissa_len, exponent_len, literal_len, tens_up, tens_down, literal_millionths}
use Rattle.scad_num.specs.Number.{number_of, half_away_over, quotient_of, remainder_of, product_of, floor_of, ceil_of, round_of}
use Rattle.scad_num.specs.Root.{root, root_in_steps, root_after, sqrt_of}
use Rattle.scad_num.specs.Rounding.{half_up, half_away}

half_is_up : half_away (pos 1) 2 ≡ pos 1
unfolding half_away half_up
half_is_up = refl

negative_half_is_down : half_away (negsuc 0) 2 ≡ negsuc 0
unfolding half_away half_up
negative_half_is_down = refl

a_third_is_none : half_away (negsuc 0) 3 ≡ pos 0
unfolding half_away half_up
a_third_is_none = refl

-- 1 / 3
one_by_three : quotient_of (pos 1000000) (pos 3000000) ≡ Ok (pos 333333)
unfolding quotient_of half_away_over half_away half_up number_of
one_by_three = refl

by_zero : quotient_of (pos 1000000) (pos 0) ≡ Err ZeroDivisor
unfolding quotient_of
by_zero = refl

-- -7 % 3
remainder_of_minus_seven : remainder_of (negsuc 6999999) (pos 3000000) ≡ Ok (negsuc 999999)
unfolding remainder_of
remainder_of_minus_seven = refl

-- 1000000000 * 2
past_the_range : product_of (pos 1000000000000000) (pos 2000000) ≡ Err Range
unfolding half_away half_up number_of
past_the_range = refl

root_of_two : sqrt_of (pos 2000000) ≡ pos 1414213
unfolding sqrt_of root root_in_steps root_after
root_of_two = refl

floor_of_minus_half : floor_of (negsuc 499999) ≡ negsuc 999999
unfolding floor_of
floor_of_minus_half = refl

ceil_of_minus_half : ceil_of (negsuc 499999) ≡ pos 0
unfolding ceil_of floor_of
ceil_of_minus_half = refl

round_of_minus_half : round_of (negsuc 499999) ≡ negsuc 999999
unfolding round_of half_away half_up
round_of_minus_half = refl

a_literal : literal_millionths (codes "12.5e-1") ≡ 1250000
unfolding literal_millionths mantissa_len tens_up tens_down half_up
a_literal = refl

the_longest_literal : literal_len (codes "12.5e-1e") ≡ 7
unfolding literal_len mantissa_len exponent_len
the_longest_literal = refl

no_exponent : literal_len (codes "7e-") ≡ 1
unfolding literal_len mantissa_len exponent_len
no_exponent = refl
