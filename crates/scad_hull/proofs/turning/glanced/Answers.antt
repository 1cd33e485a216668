-- The plane goes on to a point outside of it.
use Rattle.scad_hull.proofs.OutermostPlane.{glance_at}
use Rattle.scad_hull.proofs.turning.glanced.Goals as goal

pub starts-preserved : goal.starts-preserved
starts-preserved c = record {
  narrow = c.further-normal.ensures.narrow;
  turned = glance_at c.args.a c.args.b c.args.points.now c.starts.i _ c.starts.normal c.further-normal.result
      c.starts-test.true c.starts.invariant.turned c.further-normal.ensures.value;
}
