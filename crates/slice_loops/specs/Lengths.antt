-- Outlines of edges that have a length.
use Rattle.std.specs.Prelude.{◌≢◌, List, flat_map, All}
use Rattle.scad_geom.specs.declared.point.Pt.{Pt}
use Rattle.scad_geom.specs.declared.point.Edge.{Edge}
use Rattle.scad_geom.specs.Loop.{sides}
use Rattle.slice_loops.specs.Outlines.{AreOutlines}

-- the ends of an edge differ
abbrev pub HasLength : Edge → Type 0
HasLength e = e.a ≢ e.b

-- ---- the law
-- Where each edge has a length, so has each side of the outlines that they make.
abbrev pub SidesHaveLengths : Type 0
SidesHaveLengths =
    (edges : List Edge) (outlines : List (List Pt)) → All HasLength edges → AreOutlines edges outlines
    → All HasLength (flat_map sides outlines)
