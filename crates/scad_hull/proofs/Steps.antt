-- What a segment adds to a winding number where the point lies on its left.
use Rattle.std.proofs.Common.{◌≡◌, Bool, true, false, sym, ap, ◌∙◌, arith}
use lib.IntN.{ℤ, pos, negsuc, neg_ℤ, ◌*ℤ◌}
use lib.Signed.{◌<ℤ◌, ◌≤ℤ◌}
use Rattle.std.specs.Prelude.{if◌then◌else◌}
use Rattle.std.proofs.lemmas.Int.{ints}
use Rattle.scad_geom.specs.Winding.{is_beyond}
use Rattle.scad_geom.proofs.Signs.{one-mul, minus_one-mul}
use Rattle.winding_laws.proofs.Views.{swing_by}
use Rattle.winding_laws.proofs.Triangles.{flat}

pub step_on : (s t : Bool) (z : ℤ) → pos 0 ≤ℤ z → pos 0 ≤ℤ swing_by true s t z
unfolding is_beyond
step_on true true z h = let e = flat true true z in omega (arith, ints)
step_on false false z h = let e = flat true false z in omega (arith, ints)
step_on false true z h =
    elim (is_beyond true (pos 1 *ℤ z)) as (λ b. pos 0 ≤ℤ (if b then pos 1 else pos 0)) [
      | true ↦ omega (arith, ints)
      | false ↦ omega (arith, ints)
    ]
step_on true false z h =
    let e : is_beyond true (negsuc 0 *ℤ z) ≡ false = ap (is_beyond true) (minus_one-mul z) ∙ not_beyond z h in
    let f : swing_by true true false z ≡ pos 0 = ap (λ (b : Bool). if b then negsuc 0 else pos 0) e in
    omega (arith, ints)
  where
    not_beyond : (z : ℤ) → pos 0 ≤ℤ z → is_beyond true (neg_ℤ z) ≡ false
    not_beyond z h = sym (omega (arith, ints))

pub step_up : (z : ℤ) → pos 0 <ℤ z → swing_by true false true z ≡ pos 1
unfolding is_beyond
step_up z h = ap (λ (b : Bool). if b then pos 1 else pos 0) (ap (is_beyond true) (one-mul z) ∙ beyond z h)
  where
    beyond : (z : ℤ) → pos 0 <ℤ z → is_beyond true z ≡ true
    beyond z h = sym (omega (arith, ints))
