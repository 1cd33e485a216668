use Rattle.std.proofs.Common.{[], ◌++◌, List, sym, subst, drop}
use Rattle.std.proofs.Math.ListN.{drop_of_length-le}
use Rattle.std.proofs.lemmas.List.{append-nil}
use Rattle.scad_geom.specs.declared.point.Edge.{Edge}
use Rattle.plan_infill.specs.declared.step.Step.{Step}
use Rattle.plan_infill.specs.Steps.{AreSteps}
use Rattle.plan_infill.proofs.Edges.{no_steps, one_more}
use Rattle.plan_infill.proofs.infill.steps_of.Goals as goal

pub sides-init : goal.sides-init
sides-init c more k = subst (λ (xs : List Step). AreSteps c.args.c c.args.line c.args.sides.now (xs ++ more))
    (sym c.new-steps.ensures.items) k

pub sides-preserved : goal.sides-preserved
sides-preserved c more k =
    let t = c.in_ok-push_turn_steps.ensures in
    let n = c.in_ok-push_near_steps.ensures in
    one_more c.args.c c.args.line c.args.sides.now c.sides.side-index _ c.sides.steps.items
    c.push_turn_steps.new.steps.items c.push_near_steps.new.steps.items t.0 n.0
    c.sides-test.true c.sides.invariant t.1 t.2 n.1 n.2 more k

pub returns : goal.returns
returns c =
    let none = drop_of_length-le c.args.sides.now c.sides-test.false in
    let start : AreSteps c.args.c c.args.line (drop c.sides.side-index c.args.sides.now) [] =
    subst (λ (es : List Edge). AreSteps c.args.c c.args.line es []) (sym none) (no_steps c.args.c c.args.line) in
    subst (AreSteps c.args.c c.args.line c.args.sides.now) (append-nil c.sides.steps.items) (c.sides.invariant [] start)
