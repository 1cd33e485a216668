-- One more point: it lies inside, or the plane goes to it; and the points of a block that lies inside.
use Rattle.std.proofs.Common.{arith}
use Rattle.scad_hull.proofs.OutermostPlane.{more_at, passed}
use Rattle.scad_hull.proofs.turning.outermost.Goals as goal

pub points-preserved-then-end-i : goal.points-preserved-then-end-i
points-preserved-then-end-i c = record {
  upto = c.inner_end-end.ensures.to;
  narrow = c.points.invariant.narrow;
  turned = passed c.args.a c.args.b c.args.cloud.now.points.now c.points.normal c.points.i c.inner_end-end.result
      c.points.invariant.turned c.inner_end-end.ensures.inner;
}

pub points-preserved : goal.points-preserved
points-preserved c = record {
  upto = omega arith;
  narrow = c.further-normal.ensures.narrow;
  turned = more_at c.args.a c.args.b c.args.cloud.now.points.now c.points.i _ c.points.normal c.further-normal.result
      c.points-test.true c.points.invariant.turned c.further-normal.ensures.value;
}
