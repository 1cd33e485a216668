-- Weights: numbers from 0 on, and their sums.
use lib.IntN.{ℤ, pos, ◌+ℤ◌, ◌*ℤ◌}
use lib.Signed.{◌<ℤ◌, ◌≤ℤ◌}
use Rattle.std.proofs.Common.{arith}
use Rattle.std.proofs.lemmas.Int.{ints, by_lt_z}
use Rattle.scad_base.proofs.Products.{positive_product}
use Rattle.scad_geom.proofs.Signs.{at_least_mul}
use Rattle.scad_base.proofs.Integers.{at_most_of_less}

-- weights that aren't all 0, times numbers above 0, have a sum above 0
pub some_weight : (u v k l : ℤ) → pos 0 ≤ℤ u → pos 0 ≤ℤ v → pos 0 <ℤ (u +ℤ v) → pos 0 <ℤ k
    → pos 0 <ℤ l → pos 0 <ℤ (u *ℤ k +ℤ v *ℤ l)
some_weight u v k l hu hv o kp lp =
    let a = at_least_mul u k hu (at_most_of_less (pos 0) k kp) in
    let b = at_least_mul v l hv (at_most_of_less (pos 0) l lp) in
    by_lt_z (pos 0) u (λ h. let p = positive_product u k h kp in omega (arith, ints))
    (λ h. let more : pos 0 <ℤ v = omega (arith, ints) in let p = positive_product v l more lp in omega (arith, ints))

pub some_of_three : (u v w k l m : ℤ) → pos 0 ≤ℤ u → pos 0 ≤ℤ v → pos 0 ≤ℤ w
    → pos 0 <ℤ (u +ℤ (v +ℤ w)) → pos 0 <ℤ k → pos 0 <ℤ l → pos 0 <ℤ m
    → pos 0 <ℤ (u *ℤ k +ℤ (v *ℤ l +ℤ w *ℤ m))
some_of_three u v w k l m hu hv hw o kp lp mp =
    let a = at_least_mul u k hu (at_most_of_less (pos 0) k kp) in
    let b = at_least_mul v l hv (at_most_of_less (pos 0) l lp) in
    let c = at_least_mul w m hw (at_most_of_less (pos 0) m mp) in
    by_lt_z (pos 0) u (λ h. let p = positive_product u k h kp in omega (arith, ints))
    (λ h. by_lt_z (pos 0) v (λ g. let p = positive_product v l g lp in omega (arith, ints))
    (λ g. let more : pos 0 <ℤ w = omega (arith, ints) in let p = positive_product w m more mp in omega (arith, ints)))
