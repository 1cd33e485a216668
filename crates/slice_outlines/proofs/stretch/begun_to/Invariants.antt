use Rattle.std.proofs.Common.{◌≤◌, ◌-◌, length, take, drop, All}
use Rattle.slice_outlines.specs.Along.{BeginsBy}
use Rattle.slice_outlines.proofs.stretch.begun_to.Given as goal

abbrev pub invariant-flats : goal.invariant-flats
invariant-flats l = record {
  from : l.from ≤ l.i;
  to : l.i ≤ length l.flats;
  begun : All (BeginsBy l.s) (take (l.i - l.from) (drop l.from l.flats));
}

abbrev pub decreases-flats : goal.decreases-flats
decreases-flats l = length l.flats - l.i
