use Rattle.std.proofs.Common.{◌≤◌, ◌-◌, length}
use Rattle.slice_outlines.proofs.cursor.first_behind.Given as goal

abbrev pub invariant-marks : goal.invariant-marks
invariant-marks l = record {
  start : l.place ≤ l.from;
  order : l.from ≤ l.to;
  bound : l.to ≤ length l.marks;
}

abbrev pub decreases-marks : goal.decreases-marks
decreases-marks l = l.to - l.from
