-- An edge more, and the last one.
use Rattle.plan_sides.proofs.Pushes.{path_more, path_end}
use Rattle.plan_sides.proofs.list.push_path.Goals as goal

pub points-preserved : goal.points-preserved
points-preserved c = path_more c.args.rest.now c.points.next-index c.points.at c.args.last c.points.out.items _ _ _
    c.points-test.true c.in_ok-push.ensures.items c.points.invariant

pub returns : goal.returns
returns c = path_end c.args.rest.now c.points.next-index c.points.at c.args.last c.points.out.items _ _
    c.points-test.false c.in_ok-push-2.ensures.items c.points.invariant
