-- Both steps are read at one default and told at any.
use Rattle.std.proofs.Common.{◌+◌, ◌<◌, length, ap₂, sym, ◌∙◌, get_or, pos, FitsSigned, rules, arith}
use Rattle.std.proofs.lemmas.Bool.{eqb-false}
use lib.Signed.{lt_z}
use mir.Syntax.{w128}
use Rattle.plan_infill.specs.declared.step.Step.{Step}
use Rattle.plan_infill.proofs.Places.{less, least, place_at}
use Rattle.plan_infill.proofs.sweep.is_last_there.Goals as goal

abbrev none : Step
none = record { at = pos 0; turns = pos 0; near = pos 0 }

pub returns-then-i-steps-clause-last : goal.returns-then-i-steps-clause-last
returns-then-i-steps-clause-last c = λ test d below. absurd (omega arith)

pub returns-then-i-steps-clause-more : goal.returns-then-i-steps-clause-more
returns-then-i-steps-clause-more c = λ test d. absurd (eqb-false _ _ test c.if-i-steps.true)

pub returns-else-i-steps-clause-last : goal.returns-else-i-steps-clause-last
returns-else-i-steps-clause-last c = λ test d below.
    let here : FitsSigned w128 (get_or c.args.steps.now c.args.i none).at = search rules in
    let next : FitsSigned w128 (get_or c.args.steps.now (c.args.i + 1) none).at = search rules in
    let is = ap₂ lt_z (place_at c.args.steps.now c.args.i none d c.requires here)
    (place_at c.args.steps.now (c.args.i + 1) none d below next) in
    less _ _ (sym is ∙ test)

pub returns-else-i-steps-clause-more : goal.returns-else-i-steps-clause-more
returns-else-i-steps-clause-more c = λ test d.
    let below : c.args.i + 1 < length c.args.steps.now = omega arith in
    let here : FitsSigned w128 (get_or c.args.steps.now c.args.i none).at = search rules in
    let next : FitsSigned w128 (get_or c.args.steps.now (c.args.i + 1) none).at = search rules in
    let is = ap₂ lt_z (place_at c.args.steps.now c.args.i none d c.requires here)
    (place_at c.args.steps.now (c.args.i + 1) none d below next) in
    (below, least _ _ (sym is ∙ test))
