-- The stretches of the pairs of half planes give the places beside both ends.
use Rattle.std.proofs.Common.{ℤ, pos, ◌+ℤ◌, ◌-ℤ◌, FitsSigned, refl, ap, ◌∙◌, rules, arith}
use Rattle.std.proofs.lemmas.Int.{to_z_pos}
use mir.Syntax.{w32, w128}
use Rattle.scad_geom.specs.declared.point.Pt.{Pt}
use Rattle.scad_geom.proofs.Casts.{by_cast, read_widened}
use Rattle.plan_infill.proofs.Places.{widened_size, kept_size, natural_size, negated_size, is_round}
use Rattle.plan_infill.proofs.RowReach.{by_stretches}
use Rattle.plan_infill.proofs.near_steps.reached_by_ends.Goals as goal

pub around-across-requires-clause-a : goal.around-across-requires-clause-a
around-across-requires-clause-a c = widened_size c.low-from.result.x

pub around-across-requires-clause-b : goal.around-across-requires-clause-b
around-across-requires-clause-b c = widened_size c.high-to.result.x

pub around-across-requires-clause-w : goal.around-across-requires-clause-w
around-across-requires-clause-w c = natural_size c.args.c c.ranges.c.fits

pub around-rising-requires-clause-a : goal.around-rising-requires-clause-a
around-rising-requires-clause-a c = kept_size c.sum.result c.sum.ensures.size

pub around-rising-requires-clause-b : goal.around-rising-requires-clause-b
around-rising-requires-clause-b c = kept_size c.sum-2.result c.sum-2.ensures.size

pub around-rising-requires-clause-w : goal.around-rising-requires-clause-w
around-rising-requires-clause-w c = kept_size c.half_sum.result c.half_sum.ensures.size

pub around-rising-requires-clause-way : goal.around-rising-requires-clause-way
around-rising-requires-clause-way c = widened_size c.args.y

pub around-falling-requires-clause-a : goal.around-falling-requires-clause-a
around-falling-requires-clause-a c = kept_size c.difference.result c.difference.ensures.size

pub around-falling-requires-clause-b : goal.around-falling-requires-clause-b
around-falling-requires-clause-b c = kept_size c.difference-2.result c.difference-2.ensures.size

pub around-falling-requires-clause-w : goal.around-falling-requires-clause-w
around-falling-requires-clause-w c = kept_size c.half_sum-2.result c.half_sum-2.ensures.size

pub around-falling-requires-clause-way : goal.around-falling-requires-clause-way
around-falling-requires-clause-way c =
    negated_size c.args.y c.minus.result c.minus.ensures.size

pub minus-requires : goal.minus-requires
minus-requires c = record { fits = let small = widened_size c.args.y in omega (arith, small) }

pub returns : goal.returns
returns c =
    let from : FitsSigned w32 c.low-from.result.x = search rules in
    let to : FitsSigned w32 c.high-to.result.x = search rules in
    let up = read_widened c.args.y c.ranges.y in
    let sum_of : Pt → ℤ = λ p. p.x +ℤ p.y in
    let difference_of : Pt → ℤ = λ p. p.x -ℤ p.y in
    let a = is_round {to = pos 0} c.around-across.result c.around-across.ensures.from c.around-across.ensures.until
    (to_z_pos w128 c.args.c (omega arith))
    (read_widened _ from ∙ ap (λ (p : Pt). p.x) c.low-from.ensures.value)
    (read_widened _ to ∙ ap (λ (p : Pt). p.x) c.high-to.ensures.value) refl in
    let r = is_round c.around-rising.result c.around-rising.ensures.from c.around-rising.ensures.until
    (by_cast w128 c.half_sum.type_inv c.half_sum.ensures.value)
    (by_cast w128 c.sum.type_inv (c.sum.ensures.value ∙ ap sum_of c.low-from.ensures.value))
    (by_cast w128 c.sum-2.type_inv (c.sum-2.ensures.value ∙ ap sum_of c.high-to.ensures.value)) up in
    let f = is_round c.around-falling.result c.around-falling.ensures.from c.around-falling.ensures.until
    (by_cast w128 c.half_sum-2.type_inv c.half_sum-2.ensures.value)
    (by_cast w128 c.difference.type_inv (c.difference.ensures.value ∙ ap difference_of c.low-from.ensures.value))
    (by_cast w128 c.difference-2.type_inv (c.difference-2.ensures.value ∙ ap difference_of c.high-to.ensures.value))
    (by_cast w128 c.minus.type_inv (c.minus.ensures.difference ∙ ap (λ (t : ℤ). pos 0 -ℤ t) up)) in
    by_stretches c.args.c c.args.y c.args.e.now c.around-across.result c.around-rising.result c.around-falling.result
    c.both.result c.both-2.result a r f c.both.ensures.from c.both.ensures.until c.both-2.ensures.from
    c.both-2.ensures.until
