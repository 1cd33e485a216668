-- A point more, and none.
use Rattle.std.proofs.Common.{[]}
use Rattle.scad_leaves.proofs.KeptPoints.{point-more, point-end}
use Rattle.scad_leaves.proofs.profiles.push_all.Goals as goal

pub points-preserved : goal.points-preserved
points-preserved c = point-more c.args.ring.now c.points.p-index c.points.out.items _ _ c.p-item.result
    c.points-test.true c.p-item.is c.in_ok-push.ensures.items c.points.invariant

pub returns : goal.returns
returns c = point-end c.args.ring.now c.points.p-index c.points.out.items [] _ c.points-test.false c.points.invariant
