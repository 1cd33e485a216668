-- The sum of the products, which is a weighted mean, and the sizes of what is handed on.
use Rattle.std.proofs.Common.{◌≡◌, ◌*◌, ◌≤◌, ◌^◌, ℤ, ◌*ℤ◌, ◌+ℤ◌, pos, ◌-ℤ◌, unsigned_abs, arith, refl, ap, sym, ◌∙◌, subst, to_z, of_z}
use Rattle.std.proofs.lemmas.Int.{ints, to_z-of_z}
use mir.Syntax.{w32, w128}
use Rattle.scad_geom.specs.Limits.{coordinate_limit, point_limit}
use Rattle.scad_geom.proofs.Casts.{by_cast, sum_by, product_by, read_widened}
use Rattle.slice_section.proofs.WeightedMean.{weighted_range}
use Rattle.slice_section.proofs.Differences.{kept_size}
use Rattle.slice_section.proofs.Weights.{up_by, down_by}
use Rattle.slice_section.proofs.exact.weighted.Goals as goal
use Rattle.slice_section.proofs.exact.weighted.Goals.{After-plus}

high_is : (c : After-plus) → to_z w32 (of_z w32 c.args.high) ≡ c.args.high
high_is c = to_z-of_z w32 c.args.high c.ranges.high

low_is : (c : After-plus) → to_z w32 (of_z w32 c.args.low) ≡ c.args.low
low_is c = to_z-of_z w32 c.args.low c.ranges.low

plane_is : (c : After-plus) → to_z w128 (of_z w128 c.args.plane) ≡ c.args.plane
plane_is c = to_z-of_z w128 c.args.plane c.ranges.plane

pub up_to-down-requires-clause-small : goal.up_to-down-requires-clause-small
up_to-down-requires-clause-small c =
    subst (λ (z : ℤ). unsigned_abs z ≤ point_limit) (sym (to_z-of_z w32 c.args.high c.ranges.high))
    c.requires.heights.small_high

pub down_to-up-requires-clause-small : goal.down_to-up-requires-clause-small
down_to-up-requires-clause-small c =
    subst (λ (z : ℤ). unsigned_abs z ≤ point_limit) (sym (to_z-of_z w32 c.args.low c.ranges.low))
    c.requires.heights.small_low

pub times-requires-clause-left : goal.times-requires-clause-left
times-requires-clause-left c =
    subst (λ (z : ℤ). unsigned_abs z ≤ 2 ^ 20) (sym (read_widened c.args.lower c.ranges.lower))
    (omega (arith, c.requires.lower))

pub times-requires-clause-right : goal.times-requires-clause-right
times-requires-clause-right c = kept_size c.up_to-down.result (2 ^ 22) c.up_to-down.ensures.size (omega arith)

pub times-requires-2-clause-left : goal.times-requires-2-clause-left
times-requires-2-clause-left c =
    subst (λ (z : ℤ). unsigned_abs z ≤ 2 ^ 20) (sym (read_widened c.args.upper c.ranges.upper))
    (omega (arith, c.requires.upper))

pub times-requires-2-clause-right : goal.times-requires-2-clause-right
times-requires-2-clause-right c = kept_size c.down_to-up.result (2 ^ 22) c.down_to-up.ensures.size (omega arith)

pub plus-requires : goal.plus-requires
plus-requires c = record {
  fits = omega (
    arith,
    kept_size c.times.result (2 ^ 42) c.times.ensures.size (omega arith),
    kept_size c.times-2.result (2 ^ 42) c.times-2.ensures.size (omega arith),
  );
}

pub returns-clause-value : goal.returns-clause-value
returns-clause-value c =
    sum_by w128 c.plus.type_inv c.plus.ensures.sum
    (product_by w128 c.times.type_inv c.times.ensures.product (read_widened c.args.lower c.ranges.lower)
    (by_cast w128 c.up_to-down.type_inv (c.up_to-down.ensures.value ∙ up_by (high_is c) (plane_is c))))
    (product_by w128 c.times-2.type_inv c.times-2.ensures.product (read_widened c.args.upper c.ranges.upper)
    (by_cast w128 c.down_to-up.type_inv (c.down_to-up.ensures.value ∙ down_by (plane_is c) (low_is c))))

pub returns-clause-mean : goal.returns-clause-mean
returns-clause-mean c =
    let above = c.requires.heights.above in
    let below = c.requires.heights.below in
    let up : c.up_to-down.result ≡ pos 2 *ℤ c.args.high -ℤ c.args.plane =
    c.up_to-down.ensures.value ∙ up_by (high_is c) (plane_is c) in
    let down : c.down_to-up.result ≡ c.args.plane -ℤ pos 2 *ℤ c.args.low =
    c.down_to-up.ensures.value ∙ down_by (plane_is c) (low_is c) in
    let spread : pos 2 *ℤ c.args.high -ℤ pos 2 *ℤ c.args.low ≡ c.up_to-down.result +ℤ c.down_to-up.result =
    omega (arith, ints) in
    let product : to_z w128 (of_z w128 c.plus.result) ≡ c.args.lower *ℤ c.up_to-down.result +ℤ c.args.upper *ℤ c.down_to-up.result =
    sum_by w128 c.plus.type_inv c.plus.ensures.sum
    (product_by w128 c.times.type_inv c.times.ensures.product (read_widened c.args.lower c.ranges.lower)
    (by_cast w128 c.up_to-down.type_inv refl))
    (product_by w128 c.times-2.type_inv c.times-2.ensures.product (read_widened c.args.upper c.ranges.upper)
    (by_cast w128 c.down_to-up.type_inv refl)) in
    let small = weighted_range coordinate_limit c.args.lower c.args.upper c.up_to-down.result c.down_to-up.result
    (omega (arith, c.requires.lower)) (omega (arith, c.requires.upper)) (omega (arith, ints))
    (omega (arith, ints)) in
    subst (λ m. unsigned_abs (to_z w128 (of_z w128 c.plus.result)) ≤ coordinate_limit * unsigned_abs m) (sym spread)
    (subst (λ m. unsigned_abs m ≤ coordinate_limit * unsigned_abs (c.up_to-down.result +ℤ c.down_to-up.result))
    (sym product) small)

pub returns-clause-size : goal.returns-clause-size
returns-clause-size c =
    let sum : to_z w128 (of_z w128 c.plus.result) ≡ c.plus.result = by_cast w128 c.plus.type_inv refl in
    let left : to_z w128 (of_z w128 c.times.result) ≡ c.times.result = by_cast w128 c.times.type_inv refl in
    let right : to_z w128 (of_z w128 c.times-2.result) ≡ c.times-2.result = by_cast w128 c.times-2.type_inv refl in
    omega (
      arith,
      ap unsigned_abs sum,
      c.plus.ensures.size,
      ap unsigned_abs left,
      c.times.ensures.size,
      ap unsigned_abs right,
      c.times-2.ensures.size,
    )
