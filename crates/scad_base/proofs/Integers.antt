-- Sums, differences and the order of whole numbers. `std.proofs.Math.IntN` has the laws of the ring.
use Rattle.std.proofs.Common.{◌≡◌, ℤ, pos, negsuc, ◌+ℤ◌, ◌-ℤ◌, neg_ℤ, ◌<ℤ◌, zero, suc, refl, arith}
use Rattle.std.specs.Prelude.{◌≤ℤ◌, unsigned_abs}
use Rattle.std.proofs.lemmas.Int.{ints}

pub minus_self : (z : ℤ) → z -ℤ z ≡ pos 0
minus_self z = omega (arith, ints)

pub zero_minus : (z : ℤ) → pos 0 -ℤ z ≡ neg_ℤ z
zero_minus z = omega (arith, ints)

pub unsigned_abs-neg : (z : ℤ) → unsigned_abs (neg_ℤ z) ≡ unsigned_abs z
unsigned_abs-neg (pos zero) = refl
unsigned_abs-neg (pos (suc n)) = refl
unsigned_abs-neg (negsuc n) = refl

pub at_most_of_less : (a b : ℤ) → a <ℤ b → a ≤ℤ b
at_most_of_less a b h = omega (arith, ints)

-- an order by the gap, and back
pub gap_of_less : (a b : ℤ) → a <ℤ b → pos 0 <ℤ (b -ℤ a)
gap_of_less a b h = omega (arith, ints)

pub gap_of_at_most : (a b : ℤ) → a ≤ℤ b → pos 0 ≤ℤ (b -ℤ a)
gap_of_at_most a b h = omega (arith, ints)

pub less_of_gap : (a b : ℤ) → pos 0 <ℤ (b -ℤ a) → a <ℤ b
less_of_gap a b h = omega (arith, ints)

pub at_most_of_gap : (a b : ℤ) → pos 0 ≤ℤ (b -ℤ a) → a ≤ℤ b
at_most_of_gap a b h = omega (arith, ints)

pub less_of_fall : (a b : ℤ) → (a -ℤ b) <ℤ pos 0 → a <ℤ b
less_of_fall a b h = omega (arith, ints)

pub equal_of_gap : (a b : ℤ) → a -ℤ b ≡ pos 0 → a ≡ b
equal_of_gap a b h = omega (arith, ints)

pub zero_between : (a : ℤ) → pos 0 ≤ℤ a → a ≤ℤ pos 0 → a ≡ pos 0
zero_between a h k = omega (arith, ints)

-- what is added to a positive number
pub sum_above : (a b : ℤ) → pos 0 <ℤ a → pos 0 ≤ℤ b → pos 0 <ℤ (a +ℤ b)
sum_above a b h k = omega (arith, ints)

pub both_positive : (a b : ℤ) → pos 0 <ℤ a → pos 0 <ℤ b → pos 0 <ℤ (a +ℤ b)
both_positive a b h k = omega (arith, ints)
