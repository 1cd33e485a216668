use Rattle.std.proofs.Common.{drop}
use Rattle.slice_events.specs.Lines.{edges_in}
use Rattle.slice_events.specs.Yields.{yield_among, IsLeft}
use Rattle.slice_events.proofs.buckets.compare_all.Given as goal

abbrev pub invariant-stays : goal.invariant-stays
invariant-stays l = IsLeft l.fn.found l.found (yield_among (edges_in l.lines) (drop l.i l.stays))
    (yield_among (edges_in l.lines) l.stays)
