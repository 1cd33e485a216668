-- An edge more, and none.
use Rattle.plan_walls.proofs.Pushes.{edge_more, edge_end}
use Rattle.plan_walls.proofs.edges.push_edges.Goals as goal

pub around-preserved : goal.around-preserved
around-preserved c = edge_more 0 c.args.around.now c.around.edge-index c.around.edges.items _ _ _ c.around-test.true
    c.in_ok-push.ensures.items c.around.invariant

pub returns : goal.returns
returns c = edge_end 0 c.args.around.now c.around.edge-index c.around.edges.items _ c.around-test.false
    c.around.invariant
