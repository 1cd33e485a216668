-- The sides of a ring more, and of none.
use Rattle.std.proofs.Common.{◌∙◌}
use Rattle.plan_walls.proofs.Pushes.{ring_more, ring_end}
use Rattle.plan_walls.proofs.edges.push_rings.Goals as goal

pub around-preserved : goal.around-preserved
around-preserved c = ring_more c.args.c c.args.around.now c.around.i c.around.edges.items _ _ c.as_slice.result.now _
    c.around-test.true (c.as_slice.ensures ∙ c.ring.ensures.corners) c.in_ok-push_sides.ensures c.around.invariant

pub returns : goal.returns
returns c = ring_end c.args.c c.args.around.now c.around.i c.around.edges.items _ c.around-test.false c.around.invariant
