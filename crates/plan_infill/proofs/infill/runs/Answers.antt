use Rattle.std.proofs.Common.{List, sym, subst, ◌∙◌, flat_map}
use Rattle.std.specs.Prelude.{All}
use Rattle.std.specs.List.Sorted.{IsPermutation}
use Rattle.std.proofs.lemmas.Result.{IfOk-weaker}
use Rattle.scad_geom.specs.declared.point.Edge.{Edge}
use Rattle.scad_geom.specs.Limits.{coordinate_limit}
use Rattle.scad_geom.specs.Loop.{sides}
use Rattle.scad_geom.specs.Within.{IsEdgeWithin}
use Rattle.plan_infill.specs.declared.step.Step.{Step}
use Rattle.plan_infill.specs.Steps.{AreSteps}
use Rattle.plan_sides.proofs.Within.{outlines_within}
use Rattle.plan_infill.proofs.AllRuns.{all_steps, none_behind, all_runs}
use Rattle.plan_infill.proofs.infill.runs.Goals as goal

pub steps_of-requires-clause-edges : goal.steps_of-requires-clause-edges
steps_of-requires-clause-edges c =
    subst (λ (es : List Edge). All (IsEdgeWithin coordinate_limit) es)
    (sym (c.deref.ensures.value ∙ c.in_ok-sides.ensures))
    (outlines_within coordinate_limit c.args.outlines.now c.requires.within)

steps_are : (c : goal.After-deref-2) → AreSteps c.args.c c.args.line (flat_map sides c.args.outlines.now)
    c.in_ok-steps.steps.items
steps_are c = subst (λ (es : List Edge). AreSteps c.args.c c.args.line es c.in_ok-steps.steps.items)
    (c.deref.ensures.value ∙ c.in_ok-sides.ensures) c.in_ok-steps.ensures

sorted_are : (c : goal.After-deref-2) → IsPermutation c.in_ok-steps.steps.items c.deref-2.result.now
sorted_are c = subst (λ (ss : List Step). IsPermutation c.in_ok-steps.steps.items ss) (sym c.deref-2.ensures.value)
    c.in_ok-sort.ensures.permutation

pub stretches-requires-clause-each : goal.stretches-requires-clause-each
stretches-requires-clause-each c = all_steps c.args.c c.args.line c.args.outlines.now c.in_ok-steps.steps.items
    c.deref-2.result.now (steps_are c) (sorted_are c)

pub stretches-requires-clause-behind : goal.stretches-requires-clause-behind
stretches-requires-clause-behind c = none_behind c.args.c c.args.line c.args.outlines.now c.in_ok-steps.steps.items
    c.deref-2.result.now (steps_are c) (sorted_are c)

pub returns : goal.returns
returns c =
    let k : AreSteps c.args.c c.args.line (flat_map sides c.args.outlines.now) c.in_ok-steps.steps.items =
    subst (λ (es : List Edge). AreSteps c.args.c c.args.line es c.in_ok-steps.steps.items) (c.deref.ensures.value ∙ c.in_ok-sides.ensures) c.in_ok-steps.ensures in
    let p : IsPermutation c.in_ok-steps.steps.items c.deref-2.result.now =
    subst (λ (ss : List Step). IsPermutation c.in_ok-steps.steps.items ss) (sym c.deref-2.ensures.value) c.in_ok-sort.ensures.permutation in
    IfOk-weaker c.stretches.result _ _
    (λ v s. all_runs c.args.c c.args.line c.args.outlines.now c.in_ok-steps.steps.items c.deref-2.result.now k p
    c.args.least v.items s)
    c.stretches.ensures
