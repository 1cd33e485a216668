use Rattle.std.proofs.Common.{◌≤◌, ◌-◌, length, take, drop, All}
use Rattle.slice_outlines.specs.Flats.{LiesOn}
use Rattle.slice_outlines.proofs.flats.flats_to.Given as goal

abbrev pub invariant-flats : goal.invariant-flats
invariant-flats l = record {
  from : l.from ≤ l.to;
  to : l.to ≤ length l.flats;
  on : All (LiesOn l.at) (take (l.to - l.from) (drop l.from l.flats));
}

abbrev pub decreases-flats : goal.decreases-flats
decreases-flats l = length l.flats - l.to
