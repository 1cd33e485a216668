use Rattle.std.proofs.Common.{ap, ◌∙◌}
use Rattle.plan_layer.specs.Plan.{round}
use Rattle.plan_layer.proofs.ListPushes.{pushed_next}
use Rattle.plan_layer.proofs.wall_paths.push_rounds.Goals as goal

pub loops-preserved : goal.loops-preserved
loops-preserved c =
    pushed_next round c.args.loops.now c.loops.outline-index c.outline-item.result c.loops.paths.items
    c.push.new.self.items _ c.in_ok-round.field-0 c.loops-test.true c.in_ok-push.ensures.items
    (c.in_ok-round.ensures ∙ ap round (c.as_slice.ensures ∙ c.outline-item.is)) c.loops.invariant
