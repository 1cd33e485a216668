-- The mean over the height between the two, and the sizes of what is handed on.
use Rattle.std.proofs.Common.{◌≡◌, ◌≤◌, ◌*◌, ◌^◌, ℤ, pos, ◌-ℤ◌, ◌*ℤ◌, ◌<ℤ◌, unsigned_abs, refl, ap₂, sym, ◌∙◌, subst, to_z, of_z, arith}
use Rattle.std.proofs.lemmas.Int.{ints, to_z-of_z}
use mir.Syntax.{w32, w128}
use Rattle.scad_geom.specs.Limits.{coordinate_limit}
use Rattle.scad_geom.specs.Rounding.{half_down}
use Rattle.scad_geom.proofs.Casts.{by_cast}
use Rattle.slice_section.proofs.Weights.{apart_by, weighted_by}
use Rattle.slice_section.proofs.cut.coordinate_at.Goals as goal
use Rattle.slice_section.proofs.cut.coordinate_at.Goals.{After-apart}

-- the divisor that is handed on
divisor_is : (c : After-apart) → to_z w128 (of_z w128 c.apart.result) ≡ pos 2 *ℤ c.args.high -ℤ pos 2 *ℤ c.args.low
divisor_is c = by_cast w128 c.apart.type_inv (c.apart.ensures.value
    ∙ apart_by (to_z-of_z w32 c.args.high c.ranges.high) (to_z-of_z w32 c.args.low c.ranges.low))

pub round_half_down-requires-clause-divisor : goal.round_half_down-requires-clause-divisor
round_half_down-requires-clause-divisor c =
    let above = c.requires.heights.above in
    let below = c.requires.heights.below in
    subst (λ (z : ℤ). pos 0 <ℤ z) (sym (divisor_is c)) (omega (arith, ints))

pub round_half_down-requires-clause-bits : goal.round_half_down-requires-clause-bits
round_half_down-requires-clause-bits c =
    let low = c.requires.heights.small_low in
    let high = c.requires.heights.small_high in
    subst (λ (z : ℤ). z <ℤ pos (2 ^ 65)) (sym (divisor_is c)) (omega (arith, ints))

pub round_half_down-requires-clause-range : goal.round_half_down-requires-clause-range
round_half_down-requires-clause-range c =
    let mean : to_z w128 (of_z w128 c.weighted.result) ≡ c.weighted.result = by_cast w128 c.weighted.type_inv refl in
    subst (λ (z : ℤ). unsigned_abs z ≤ coordinate_limit * unsigned_abs (to_z w128 (of_z w128 c.apart.result))) (sym mean)
    (subst (λ (z : ℤ). unsigned_abs c.weighted.result ≤ coordinate_limit * unsigned_abs z)
    (sym (by_cast w128 c.apart.type_inv c.apart.ensures.value)) c.weighted.ensures.mean)

pub returns : goal.returns
returns c =
    by_cast w32 c.round_half_down.type_inv (c.round_half_down.ensures.value
    ∙ ap₂ half_down (by_cast w128 c.weighted.type_inv (c.weighted.ensures.value
    ∙ weighted_by (to_z-of_z w32 c.args.lower c.ranges.lower) (to_z-of_z w32 c.args.upper c.ranges.upper)
    (to_z-of_z w32 c.args.low c.ranges.low) (to_z-of_z w32 c.args.high c.ranges.high)
    (to_z-of_z w128 c.args.plane c.ranges.plane)))
    (by_cast w128 c.apart.type_inv (c.apart.ensures.value
    ∙ apart_by (to_z-of_z w32 c.args.high c.ranges.high) (to_z-of_z w32 c.args.low c.ranges.low))))
