use Rattle.std.proofs.Common.{◌≡◌, ◌++◌, drop}
use Rattle.slice_border.specs.Stops.{spots_in}
use Rattle.slice_outlines.specs.Stops.{mark_spots}
use Rattle.slice_outlines.proofs.stops.push_strands.Given as goal

abbrev pub invariant-marks : goal.invariant-marks
invariant-marks l = spots_in l.out.items ++ mark_spots l.edges l.at (drop l.mark-index l.marks)
    ≡ spots_in l.fn.out.items ++ mark_spots l.edges l.at l.marks
