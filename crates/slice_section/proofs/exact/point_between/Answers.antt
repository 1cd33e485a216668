-- Each number by its call, over the numbers of the points as they are handed on.
use Rattle.std.proofs.Common.{◌≡◌, ◌≤◌, ◌^◌, ℕ, ℤ, pos, ◌-ℤ◌, ◌*ℤ◌, unsigned_abs, refl, ap, ◌∙◌, sym, subst, to_z, of_z, arith}
use Rattle.std.proofs.lemmas.Int.{to_z-of_z}
use mir.Syntax.{w32, w128}
use Rattle.scad_geom.specs.Limits.{point_limit}
use Rattle.scad_geom.proofs.Casts.{by_cast, cast_size, handed}
use Rattle.scad_solid.specs.Cut.{weighted}
use Rattle.slice_section.proofs.Weights.{apart_by, weighted_by, between_by, point_by}
use Rattle.slice_section.proofs.exact.point_between.Goals as goal

kept : (z : ℤ) → unsigned_abs z ≤ point_limit → to_z w32 (of_z w32 z) ≡ z
kept z small = handed w32 z (omega (arith, small)) refl

pub weighted-requires-clause-heights : goal.weighted-requires-clause-heights
weighted-requires-clause-heights c =
    let low = c.args.lower.z in
    let high = c.args.upper.z in
    between_by (to_z w128 (of_z w128 c.args.plane)) (to_z w32 (of_z w32 low)) (to_z w32 (of_z w32 high)) c.args.plane
    low high (to_z-of_z w128 c.args.plane c.ranges.plane) (kept low c.requires.heights.small_low)
    (kept high c.requires.heights.small_high) c.requires.heights

pub weighted-requires-2-clause-heights : goal.weighted-requires-2-clause-heights
weighted-requires-2-clause-heights c =
    let low = c.args.lower.z in
    let high = c.args.upper.z in
    between_by (to_z w128 (of_z w128 c.args.plane)) (to_z w32 (of_z w32 low)) (to_z w32 (of_z w32 high)) c.args.plane
    low high (to_z-of_z w128 c.args.plane c.ranges.plane) (kept low c.requires.heights.small_low)
    (kept high c.requires.heights.small_high) c.requires.heights

pub returns-clause-value : goal.returns-clause-value
returns-clause-value c =
    let l = c.args.lower in
    let u = c.args.upper in
    let plane = to_z-of_z w128 c.args.plane c.ranges.plane in
    let low = kept l.z c.requires.heights.small_low in
    let high = kept u.z c.requires.heights.small_high in
    point_by (to_z w128 (of_z w128 c.weighted.result)) (to_z w128 (of_z w128 c.weighted-2.result))
    (to_z w128 (of_z w128 c.apart.result)) (weighted l.x u.x l.z u.z c.args.plane)
    (weighted l.y u.y l.z u.z c.args.plane) (pos 2 *ℤ u.z -ℤ pos 2 *ℤ l.z)
    (by_cast w128 c.weighted.type_inv (c.weighted.ensures.value
    ∙ weighted_by (kept l.x c.requires.lower_x) (kept u.x c.requires.upper_x) low high plane))
    (by_cast w128 c.weighted-2.type_inv (c.weighted-2.ensures.value
    ∙ weighted_by (kept l.y c.requires.lower_y) (kept u.y c.requires.upper_y) low high plane))
    (by_cast w128 c.apart.type_inv (c.apart.ensures.value ∙ apart_by high low))

pub returns-clause-small : goal.returns-clause-small
returns-clause-small c =
    let most = λ (n : ℕ). n ≤ 2 ^ 43 in
    let divisor : to_z w128 (of_z w128 c.apart.result) ≡ c.apart.result = by_cast w128 c.apart.type_inv refl in
    let low = ap unsigned_abs (kept c.args.lower.z c.requires.heights.small_low) in
    let high = ap unsigned_abs (kept c.args.upper.z c.requires.heights.small_high) in
    record {
      x = subst most (sym (cast_size w128 c.weighted.result (omega (arith, c.weighted.ensures.size))))
          c.weighted.ensures.size;
      y = subst most (sym (cast_size w128 c.weighted-2.result (omega (arith, c.weighted-2.ensures.size))))
          c.weighted-2.ensures.size;
      d = omega (
        arith,
        ap unsigned_abs divisor,
        c.apart.ensures.size,
        low,
        high,
        c.requires.heights.small_low,
        c.requires.heights.small_high,
      );
    }
