use Rattle.std.proofs.Common.{◌≡◌, drop}
use Rattle.slice_outlines.specs.Along.{least_from, least}
use Rattle.slice_outlines.proofs.stretch.least.Given as goal

abbrev pub invariant-flats : goal.invariant-flats
invariant-flats l = least_from l.least (drop l.e-index l.live) ≡ least l.live
