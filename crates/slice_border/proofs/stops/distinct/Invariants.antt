use Rattle.std.proofs.Common.{◌≡◌, ◌++◌, drop}
use Rattle.slice_border.specs.Stops.{spots_in, is_left}
use Rattle.slice_events.specs.Distinct.{distinct_by}
use Rattle.slice_border.proofs.stops.distinct.Given as goal

abbrev pub invariant-stops : goal.invariant-stops
invariant-stops l = spots_in l.out.items ++ distinct_by is_left (drop l.i (spots_in l.stops)) ≡ distinct_by is_left
    (spots_in l.stops)
