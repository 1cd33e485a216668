use Rattle.std.proofs.Common.{◌<◌, ℕ, get_or}
use Rattle.slice_outlines.specs.declared.flat.Flat.{Flat}
use Rattle.slice_outlines.specs.Flats.{LiesAside}
use Rattle.slice_outlines.proofs.aside.in_way.Given as goal

abbrev pub invariant-flats : goal.invariant-flats
invariant-flats l = (k : ℕ) (d : Flat) → k < l.e-index → LiesAside l.s.spot.at l.s.spot (get_or l.flats k d)
