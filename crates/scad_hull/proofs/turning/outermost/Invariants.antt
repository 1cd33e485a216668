-- What is kept: of the points so far none lies outside.
use Rattle.std.proofs.Common.{◌≤◌, ◌-◌, length}
use Rattle.scad_hull.specs.Space.{IsNarrow, IsTurned}
use Rattle.scad_hull.proofs.turning.outermost.Given as goal

abbrev pub invariant-points : goal.invariant-points
invariant-points l = record {
  upto : l.i ≤ length l.cloud.points.now;
  narrow : IsNarrow l.normal;
  turned : IsTurned l.a l.b l.cloud.points.now l.normal l.i;
}

abbrev pub decreases-points : goal.decreases-points
decreases-points l = length l.cloud.points.now - l.i
