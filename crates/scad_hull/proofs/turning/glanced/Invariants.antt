-- What is kept: the plane goes through a point in front.
use Rattle.std.proofs.Common.{◌-◌, length}
use Rattle.scad_hull.specs.Space.{IsNarrow, IsTurned}
use Rattle.scad_hull.proofs.turning.glanced.Given as goal

abbrev pub invariant-starts : goal.invariant-starts
invariant-starts l = record {
  narrow : IsNarrow l.normal;
  turned : IsTurned l.a l.b l.points l.normal 0;
}

abbrev pub decreases-starts : goal.decreases-starts
decreases-starts l = length l.points - l.i
