use Rattle.std.proofs.Common.{◌<◌, ◌≤◌, ◌-◌, length, take, drop}
use Rattle.std.specs.Prelude.{unsigned_abs}
use Rattle.scad_geom.specs.Limits.{coordinate_limit}
use Rattle.slice_outlines.specs.Flats.{AreJoined}
use Rattle.slice_outlines.proofs.flats.joined_from.Given as goal

abbrev pub invariant-flats : goal.invariant-flats
invariant-flats l = record {
  from : l.from < l.joined.to;
  to : l.joined.to ≤ length l.flats;
  joined : AreJoined (take (l.joined.to - l.from) (drop l.from l.flats)) l.joined.right;
  size : unsigned_abs l.joined.right ≤ coordinate_limit;
}

abbrev pub decreases-flats : goal.decreases-flats
decreases-flats l = length l.flats - l.joined.to
