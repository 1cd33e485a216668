-- Squares and their sums aren't negative.
use Rattle.std.proofs.Common.{◌≡◌, ℕ, ◌*◌, Bool, true, false, Result, Ok, Err, IfOk, ℤ, pos, negsuc, suc, ◌+ℤ◌, ◌*ℤ◌, ◌≤ℤ◌, unsigned_abs, subst, sym, arith, rules}
use Rattle.std.specs.Prelude.{nat_le, if◌then◌else◌}
use Rattle.std.proofs.lemmas.Int.{ints}
use Rattle.scad_num.specs.declared.fault.NumFault.{NumFault}
use Rattle.scad_num.specs.declared.fault.NumFault.TheVariants.{Range}
use Rattle.scad_num.specs.Number.{number_of, sum_of, product_of, one, most}
use Rattle.scad_num.specs.Rounding.{half_away}

chosen_sign : (b : Bool) (z : ℤ) → pos 0 ≤ℤ z → IfOk (if b then Ok z else Err Range) (λ s. pos 0 ≤ℤ s)
chosen_sign true z h = h
chosen_sign false z h = tt

number_sign : (z : ℤ) → pos 0 ≤ℤ z → IfOk (number_of z) (λ s. pos 0 ≤ℤ s)
unfolding number_of
number_sign z h = chosen_sign (nat_le (unsigned_abs z) most) z h

pub sum_sign : (a b : ℤ) (r : Result ℤ NumFault) → pos 0 ≤ℤ a → pos 0 ≤ℤ b → r ≡ sum_of a b → IfOk r (λ s. pos 0 ≤ℤ s)
sum_sign a b r ha hb is = subst (λ (r : Result ℤ NumFault). IfOk r (λ s. pos 0 ≤ℤ s)) (sym is)
    (number_sign (a +ℤ b) (omega (arith, ints)))

rounded_sign : (n : ℕ) → pos 0 ≤ℤ half_away (pos n) one
unfolding half_away
rounded_sign n = search rules

square_sign_at : (z : ℤ) → pos 0 ≤ℤ half_away (z *ℤ z) one
square_sign_at (pos n) = rounded_sign (n * n)
square_sign_at (negsuc n) = rounded_sign (suc n * suc n)

pub square_sign : (a : ℤ) (r : Result ℤ NumFault) → r ≡ product_of a a → IfOk r (λ s. pos 0 ≤ℤ s)
square_sign a r is = subst (λ (r : Result ℤ NumFault). IfOk r (λ s. pos 0 ≤ℤ s)) (sym is)
    (number_sign (half_away (a *ℤ a) one) (square_sign_at a))
