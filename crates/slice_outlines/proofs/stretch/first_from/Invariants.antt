use Rattle.std.proofs.Common.{◌≤◌, ◌-◌, length}
use Rattle.std.specs.List.{AllWithin}
use Rattle.slice_outlines.specs.Along.{LiesLeftOf}
use Rattle.slice_outlines.proofs.stretch.first_from.Given as goal

abbrev pub invariant-marks : goal.invariant-marks
invariant-marks l = record {
  order : l.from ≤ l.to;
  bound : l.to ≤ length l.marks;
  before : AllWithin (λ m. LiesLeftOf l.height l.s m) l.marks 0 l.from;
  behind : AllWithin (λ m. LiesLeftOf l.height l.s m → ⊥) l.marks l.to (length l.marks);
}

abbrev pub decreases-marks : goal.decreases-marks
decreases-marks l = l.to - l.from
