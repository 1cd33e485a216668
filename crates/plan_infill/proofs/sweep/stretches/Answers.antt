use Rattle.std.proofs.Common.{◌≡◌, ◌+◌, ◌++◌, ◌≤◌, unsigned_abs, arith, ◌&&◌, not, None, List, ℤ, Option, rules, sym, ap, subst, pos, get_or}
use Rattle.scad_geom.specs.Limits.{coordinate_limit}
use Rattle.scad_geom.specs.Sign.{is_zero}
use Rattle.scad_geom.proofs.Casts.{casts}
use Rattle.plan_infill.specs.declared.run.Run.{Run}
use Rattle.plan_infill.specs.declared.step.Step.{Step}
use Rattle.plan_infill.specs.Sweep.{is_deep_at, IsOpenWithin, opened, closed}
use Rattle.plan_infill.proofs.Stretches.{all_ended, open_within}
use Rattle.plan_infill.proofs.StepSums.{Swept, swept_none, swept_more, swept_last, holds_within, turns-size, near-size}
use Rattle.plan_infill.proofs.sweep.stretches.Goals as goal
use Rattle.plan_infill.proofs.sweep.stretches.Goals.{then-is_last_there+in_ok-since, else-is_last_there}

no_step : Step
no_step = record { at = pos 0; turns = pos 0; near = pos 0 }

pub steps-init : goal.steps-init
steps-init c = subst (λ (rs : List Run). Swept c.args.steps.now c.args.least 0 (pos 0) (pos 0) None rs)
    (sym c.new-out.ensures.items) (swept_none c.args.steps.now c.args.least c.requires.sorted)

pub with_step-sums-requires-clause-turns : goal.with_step-sums-requires-clause-turns
with_step-sums-requires-clause-turns c =
    let k = c.steps.invariant in
    let s : unsigned_abs c.steps.sums.turns ≤ c.steps.i = subst (λ (z : ℤ). unsigned_abs z ≤ c.steps.i) (sym k.turns_so_far) (turns-size c.args.steps.now c.steps.i c.requires.each) in
    omega (arith, s, c.steps-test.true)

pub with_step-sums-requires-clause-near : goal.with_step-sums-requires-clause-near
with_step-sums-requires-clause-near c =
    let k = c.steps.invariant in
    let s : unsigned_abs c.steps.sums.near ≤ c.steps.i = subst (λ (z : ℤ). unsigned_abs z ≤ c.steps.i) (sym k.near_so_far) (near-size c.args.steps.now c.steps.i c.requires.each) in
    omega (arith, s, c.steps-test.true)

pub go_on-requires : goal.go_on-requires
unfolding no_step
go_on-requires c =
    let k = c.steps.invariant in
    let w : IsOpenWithin coordinate_limit c.steps.since (get_or c.args.steps.now c.steps.i no_step).at =
    subst (IsOpenWithin coordinate_limit c.steps.since) (k.next no_step c.steps-test.true)
    (open_within (is_deep_at c.args.steps.now) c.args.least k.place c.steps.since (holds_within c.args.steps.now c.requires.each c.requires.behind) k.open_there) in
    search (rules, casts)

pub steps-preserved : goal.steps-preserved
unfolding no_step
steps-preserved c =
    let steps : List Step = c.args.steps.now in
    elim c.if-is_last_there.branch [
      | then-is_last_there+in_ok-since w ↦
          let place : ℤ = (get_or steps c.steps.i no_step).at in
          let sums = c.with_step-sums.result in
          let es : w.in_ok-since.since ≡ opened (not (is_zero sums.turns) && is_zero sums.near) c.steps.since place = search (rules, casts) in
          let er : w.go_on.new.out.items ≡ c.steps.out.items ++ closed (not (is_zero sums.turns) && is_zero sums.near) c.steps.since place c.args.least = search (rules, casts) in
          let k = swept_last steps c.args.least c.steps.i no_step c.steps.sums.turns c.steps.sums.near sums.turns sums.near c.steps.since w.in_ok-since.since c.steps.out.items w.go_on.new.out.items
          c.requires.sorted c.requires.behind c.steps-test.true (c.is_last_there.ensures.last w.if-is_last_there.true) c.with_step-sums.ensures.turns c.with_step-sums.ensures.near es er c.steps.invariant in
          subst (λ (s : Option ℤ). Swept steps c.args.least (c.steps.i + 1) sums.turns sums.near s
          c.if-is_last_there.out.items) (sym w.since-is)
          (subst (λ (rs : List Run). Swept steps c.args.least (c.steps.i + 1) sums.turns sums.near w.in_ok-since.since
          rs) (sym (ap (λ v. v.items) w.out-is)) k)
      | else-is_last_there w ↦
          let sums = c.with_step-sums.result in
          let k = swept_more steps c.args.least c.steps.i no_step c.steps.sums.turns c.steps.sums.near c.with_step-sums.result.turns c.with_step-sums.result.near c.steps.since c.steps.out.items
          c.requires.sorted c.steps-test.true (c.is_last_there.ensures.more w.if-is_last_there.false) c.with_step-sums.ensures.turns c.with_step-sums.ensures.near c.steps.invariant in
          subst (λ (s : Option ℤ). Swept steps c.args.least (c.steps.i + 1) sums.turns sums.near s
          c.if-is_last_there.out.items) (sym w.since-is)
          (subst (λ (rs : List Run). Swept steps c.args.least (c.steps.i + 1) sums.turns sums.near c.steps.since rs)
          (sym (ap (λ v. v.items) w.out-is)) k)
    ]

pub returns : goal.returns
returns c =
    let k = c.steps.invariant in
    all_ended (is_deep_at c.args.steps.now) c.args.least k.place c.steps.out.items (k.behind c.steps-test.false)
    k.before
