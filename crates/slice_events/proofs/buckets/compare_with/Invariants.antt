use Rattle.std.proofs.Common.{drop}
use Rattle.slice_events.specs.Lines.{edges_in}
use Rattle.slice_events.specs.Yields.{yield_with, IsLeft}
use Rattle.slice_events.proofs.buckets.compare_with.Given as goal

abbrev pub invariant-later : goal.invariant-later
invariant-later l = IsLeft l.fn.found l.found (yield_with (edges_in l.lines) l.s (drop l.t-index l.later))
    (yield_with (edges_in l.lines) l.s l.later)
