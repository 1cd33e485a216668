use Rattle.std.proofs.Common.{◌≡◌, ◌++◌, drop}
use Rattle.slice_border.specs.Stops.{spots_in}
use Rattle.slice_outlines.specs.Stops.{flat_spots}
use Rattle.slice_outlines.proofs.stops.push_flats.Given as goal

abbrev pub invariant-flats : goal.invariant-flats
invariant-flats l = spots_in l.out.items ++ flat_spots l.at (drop l.e-index l.flats)
    ≡ spots_in l.fn.out.items ++ flat_spots l.at l.flats
