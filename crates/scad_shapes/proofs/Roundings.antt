-- How great half a size and a part of a length are.
use Rattle.std.proofs.Common.{◌*◌, ◌≤◌, ℤ, pos, negsuc, ◌-ℤ◌, ◌*ℤ◌, unsigned_abs, arith}
use Rattle.std.proofs.lemmas.Int.{ints, unsigned_abs-mul}
use Rattle.std.proofs.lemmas.Nat.{mul-le}
use Rattle.scad_num.specs.Number.{one, most}
use Rattle.scad_num.specs.Rounding.{half_up, half_away}

-- what half a size leaves isn't greater than the size
pub rest_is_small : (s : ℤ) → unsigned_abs (s -ℤ half_away s 2) ≤ unsigned_abs s
unfolding half_away half_up
rest_is_small (pos n) = omega (arith, ints)
rest_is_small (negsuc n) = omega (arith, ints)

-- what is left of so many millionths of millionths isn't greater than a number
pub part_is_small : (n : ℤ) → unsigned_abs n ≤ most * one → unsigned_abs (half_away n one) ≤ most
unfolding half_away half_up
part_is_small (pos n) small = omega (arith, ints)
part_is_small (negsuc n) small = omega (arith, ints)

-- a length times a cosine or a sine
pub product_is_small : (r c : ℤ) → unsigned_abs r ≤ most → unsigned_abs c ≤ one → unsigned_abs (r *ℤ c) ≤ most * one
product_is_small r c length turn =
    rw (unsigned_abs-mul r c) (mul-le (unsigned_abs r) (unsigned_abs c) most one length turn)
