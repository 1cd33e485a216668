use Rattle.std.proofs.Common.{◌≡◌}
use Rattle.slice_outlines.specs.Marks.{begun_in}
use Rattle.slice_outlines.proofs.mark.begin.Given as goal

abbrev pub invariant-marks : goal.invariant-marks
invariant-marks l = l.marks.items ≡ begun_in l.from l.i l.at l.fn.marks.items
