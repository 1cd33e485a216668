-- The points of the plane so far, and those of the rest, are all.
use Rattle.std.proofs.Common.{◌≡◌, ◌≤◌, ◌-◌, ◌++◌, length, drop}
use Rattle.scad_hull.specs.Faces.{in_plane}
use Rattle.scad_hull.proofs.faces.in_plane.Given as goal

abbrev pub invariant-points : goal.invariant-points
invariant-points l = record {
  upto : l.i ≤ length l.cloud.points.now;
  found : l.plane.items ++ in_plane (drop l.i l.cloud.points.now) l.a l.normal
      ≡ in_plane l.cloud.points.now l.a l.normal;
}

abbrev pub decreases-points : goal.decreases-points
decreases-points l = length l.cloud.points.now - l.i
