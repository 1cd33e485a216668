-- The points of a block that lies inside are none of the plane.
use Rattle.scad_hull.specs.Faces.{in_plane}
use Rattle.scad_hull.proofs.DeepPoints.{found_past}
use Rattle.scad_hull.proofs.faces.in_plane.Goals as goal

pub points-preserved-then-end-i : goal.points-preserved-then-end-i
points-preserved-then-end-i c = record {
  upto = c.inner_end-end.ensures.to;
  found = found_past c.args.a c.args.normal.now c.args.cloud.now.points.now c.points.plane.items
      (in_plane c.args.cloud.now.points.now c.args.a c.args.normal.now) c.points.i c.inner_end-end.result
      c.inner_end-end.ensures.from c.inner_end-end.ensures.to c.inner_end-end.ensures.inner c.points.invariant.found;
}
