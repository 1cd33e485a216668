-- What the roundings mean: a whole number at most one half away, a half away from zero.
use Rattle.std.proofs.Common.{◌≡◌, ℕ, zero, suc, ◌+◌, ◌*◌, ◌/◌, ◌<◌, ◌≤◌, ℤ, pos, negsuc, neg_ℤ, ◌+ℤ◌, ◌*ℤ◌, ◌<ℤ◌, ◌≤ℤ◌, unsigned_abs, refl, sym, subst, arith}
use Rattle.std.specs.Int.{int_div_euclid}
use Rattle.std.proofs.Math.Nat.{mul-div-le, lt-mul-div-succ, div-eq_of_lt}
use Rattle.std.proofs.lemmas.Int.{ints}
use Rattle.scad_base.proofs.Integers.{unsigned_abs-neg}
use Rattle.std.proofs.Math.IntN.{neg_ℤ-neg_ℤ}
use Rattle.scad_num.specs.Laws.{IsNearest, RoundsToNearest, RoundsAwayFromZero, FloorsAndCeilings}
use Rattle.scad_num.specs.Number.{one, floor_of, ceil_of}
use Rattle.scad_num.specs.Rounding.{half_up, half_away}

IsNearest-half_up : (n d : ℕ) → 0 < d → IsNearest n d (half_up n d)
unfolding half_up
IsNearest-half_up n d h = record {
  not_above = let low = mul-div-le (2 * n + d) (2 * d) in low;
  not_below = let high = lt-mul-div-succ (2 * n + d) {b = 2 * d} (omega arith) in omega (arith, high);
}

-- the size goes by `half_up`
unsigned_abs-half_away : (z : ℤ) (d : ℕ) → unsigned_abs (half_away z d) ≡ half_up (unsigned_abs z) d
unfolding half_away
unsigned_abs-half_away (pos n) d = refl
unsigned_abs-half_away (negsuc n) d = unsigned_abs-neg (pos (half_up (suc n) d))

-- and below 0 it mirrors what it is above
half_away-neg : (z : ℤ) (d : ℕ) → 0 < d → half_away (neg_ℤ z) d ≡ neg_ℤ (half_away z d)
unfolding half_away half_up
half_away-neg (pos zero) d h = let none : (2 * 0 + d) / (2 * d) ≡ 0 = div-eq_of_lt (omega arith) in rw none refl
half_away-neg (pos (suc n)) d h = refl
half_away-neg (negsuc n) d h = sym (neg_ℤ-neg_ℤ (pos ((2 * suc n + d) / (2 * d))))

pub rounds_to_nearest : RoundsToNearest
rounds_to_nearest n d h = IsNearest-half_up n d h

pub rounds_away_from_zero : RoundsAwayFromZero
rounds_away_from_zero z d h = (
  subst (IsNearest (unsigned_abs z) d) (sym (unsigned_abs-half_away z d)) (IsNearest-half_up (unsigned_abs z) d h),
  half_away-neg z d h,
)

-- floor_of z ≤ z < floor_of z + 1
floor_of-le : (z : ℤ) → floor_of z ≤ℤ z
unfolding floor_of
floor_of-le (pos n) = omega (arith, ints)
floor_of-le (negsuc n) = omega (arith, ints)

lt-floor_of : (z : ℤ) → z <ℤ (floor_of z +ℤ pos one)
unfolding floor_of
lt-floor_of (pos n) = omega (arith, ints)
lt-floor_of (negsuc n) = omega (arith, ints)

-- ceil_of z - 1 < z ≤ ceil_of z
le-ceil_of : (z : ℤ) → z ≤ℤ ceil_of z
unfolding ceil_of
le-ceil_of z = omega (arith, ints, floor_of-le (neg_ℤ z))

ceil_of-lt : (z : ℤ) → ceil_of z <ℤ (z +ℤ pos one)
unfolding ceil_of
ceil_of-lt z = omega (arith, ints, lt-floor_of (neg_ℤ z))

neg_whole : (k : ℤ) → neg_ℤ (k *ℤ pos one) ≡ neg_ℤ k *ℤ pos one
neg_whole k = omega (arith, ints)

pub floors_and_ceilings : FloorsAndCeilings
unfolding floor_of ceil_of
floors_and_ceilings z = (
  record { whole = (int_div_euclid z (pos one), refl); not_above = floor_of-le z; not_below = lt-floor_of z },
  record {
    whole = (neg_ℤ (int_div_euclid (neg_ℤ z) (pos one)), neg_whole (int_div_euclid (neg_ℤ z) (pos one)));
    not_below = le-ceil_of z;
    not_above = ceil_of-lt z;
  },
)
