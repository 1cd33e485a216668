-- The lower ends of edges, as the starts of which slice_bundles' definitions speak.
use Rattle.std.specs.Prelude.{List, map}
use Rattle.slice_bundles.specs.declared.start.Start.{Start}
use Rattle.slice_sweep.specs.declared.lower_end.LowerEnd.{LowerEnd}

abbrev pub start_of : LowerEnd → Start
start_of e = record { y = e.y; number = e.number; size = e.size }

abbrev pub starts_of : List LowerEnd → List Start
starts_of es = map start_of es
