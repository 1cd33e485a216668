-- Each arm's call is told of the numbers themselves, whatever they were cast to.
use Rattle.std.proofs.Common.{ℤ, pos, FitsSigned, sym, ap, ◌∙◌, rules, arith}
use Rattle.std.proofs.lemmas.Int.{to_z-of_z}
use lib.Signed.{lt_z}
use mir.Syntax.{w128}
use Rattle.plan_infill.proofs.Places.{less, least, negated, next, is_floor, is_ceiling, is_last_part, is_first_part, is_nothing}
use Rattle.plan_infill.proofs.Parts.{rising_part, falling_part, no_part}
use Rattle.plan_infill.proofs.turn_steps.positive_part.Goals as goal

pub returns-then-slope-gt0 : goal.returns-then-slope-gt0
returns-then-slope-gt0 c =
    let slope = to_z-of_z w128 c.args.slope c.ranges.slope in
    let fits : FitsSigned w128 c.floor.result = record { sfits = c.floor.type_inv } in
    let floor = is_floor (negated c.args.start c.ranges.start c.requires.start) slope c.floor.ensures.value in
    let part = is_last_part (next c.floor.result c.args.start fits c.ranges.start c.requires.start c.floor.ensures.size)
    c.last_part.ensures in
    let rises = less (pos 0) c.args.slope (sym (ap (λ (s : ℤ). lt_z (pos 0) s) slope) ∙ c.if-slope-gt0.true) in
    rising_part c.args.of c.last_part.result c.args.slope c.args.start c.floor.result rises floor part

pub returns-then-slope-lt0 : goal.returns-then-slope-lt0
returns-then-slope-lt0 c =
    let slope = to_z-of_z w128 c.args.slope c.ranges.slope in
    let fits : FitsSigned w128 c.ceiling.result = record { sfits = c.ceiling.type_inv } in
    let ceiling = is_ceiling (to_z-of_z w128 c.args.start c.ranges.start)
    (negated c.args.slope c.ranges.slope (omega arith)) c.ceiling.ensures.value in
    let part = is_first_part (to_z-of_z w128 c.ceiling.result fits) c.first_part.ensures in
    let falls = less c.args.slope (pos 0) (sym (ap (λ (s : ℤ). lt_z s (pos 0)) slope) ∙ c.if-slope-lt0.true) in
    falling_part c.args.of c.first_part.result c.args.slope c.args.start c.ceiling.result falls ceiling part

pub returns-else-start-gt0 : goal.returns-else-start-gt0
returns-else-start-gt0 c =
    let slope = to_z-of_z w128 c.args.slope c.ranges.slope in
    let start = to_z-of_z w128 c.args.start c.ranges.start in
    let fits : FitsSigned w128 c.args.of.from = search rules in
    let part = is_first_part (to_z-of_z w128 c.args.of.from fits) c.first_part-else-start-gt0.ensures in
    let most = least (pos 0) c.args.slope (sym (ap (λ (s : ℤ). lt_z (pos 0) s) slope) ∙ c.if-slope-gt0.false) in
    let some = least c.args.slope (pos 0) (sym (ap (λ (s : ℤ). lt_z s (pos 0)) slope) ∙ c.if-slope-lt0.false) in
    let begun = least (pos 0) c.args.start (sym (ap (λ (s : ℤ). lt_z (pos 0) s) start) ∙ c.if-start-gt0.false) in
    no_part c.args.of c.first_part-else-start-gt0.result c.args.slope c.args.start (is_nothing c.args.slope most some)
    begun part
