-- A circle has no more fragments than the limit.
use Rattle.std.proofs.Common.{ℕ, ◌+◌, ◌*◌, ◌/◌, ◌<◌, ◌≤◌, Bool, true, false, ℤ, pos, negsuc, if◌then◌else◌, arith, max, min}
use Rattle.std.specs.Prelude.{int_lt, unsigned_abs}
use Rattle.std.specs.Int.{div_ceil}
use Rattle.std.proofs.lemmas.Bool.Decides.{nat_tests}
use Rattle.std.proofs.lemmas.Nat.{div_below}
use Rattle.scad_num.specs.Number.{one, most}
use Rattle.scad_num.specs.Rounding.{half_up}
use Rattle.scad_cos.specs.Circle.{fragment_limit, least_step, fragments_by_steps, fragments_of, least_radius}

ten-thousand : (z : ℤ) → 10000 ≤ least_step z
unfolding least_step
ten-thousand (pos n) = grind (arith, nat_tests)
ten-thousand (negsuc n) = omega arith

by_angle-few : (fa : ℕ) → 10000 ≤ fa → half_up (360 * one * one) fa ≤ 36000000001
unfolding half_up
by_angle-few fa step =
    let below : (2 * (360 * one * one) + fa) / (2 * fa) < 36000000002 = div_below (2 * (360 * one * one) + fa) (2 * fa)
    36000000002 (omega arith) (omega arith) in
    omega arith

rounded-few : (a b : ℕ) → a ≤ 36000000001 → div_ceil (max (min a b) (5 * one)) one ≤ fragment_limit
rounded-few a b few = omega arith

by_steps-few : (r fa fs : ℕ) → 10000 ≤ fa → fragments_by_steps r fa fs ≤ fragment_limit
unfolding fragments_by_steps
by_steps-few r fa fs step = rounded-few (half_up (360 * one * one) fa) _ (by_angle-few fa step)

pub fragments_few : (r fn fa fs : ℤ) → unsigned_abs fn ≤ most → fragments_of r fn fa fs ≤ fragment_limit
unfolding fragments_of
fragments_few r fn fa fs small = by (int_lt r (pos least_radius)) (int_lt (pos 0) fn)
  where
    by : (b c : Bool) → (if b then 3 else (if c then max 3 (unsigned_abs fn / one) else fragments_by_steps
        (unsigned_abs r) (least_step fa) (least_step fs))) ≤ fragment_limit
    by true c = omega arith
    by false true = omega arith
    by false false = by_steps-few (unsigned_abs r) (least_step fa) (least_step fs) (ten-thousand fa)
