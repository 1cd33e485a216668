-- Laws of drawn loops and outlines.
use Rattle.std.specs.Prelude.{◌≡◌, Bool, List, flat_map, pos, ◌<ℤ◌}
use Rattle.std.specs.List.Sorted.{IsPermutation}
use Rattle.scad_geom.specs.declared.point.Pt.{Pt}
use Rattle.scad_geom.specs.declared.point.Edge.{Edge}
use Rattle.scad_geom.specs.Point.{Point}
use Rattle.scad_geom.specs.Segment.{segments}
use Rattle.scad_geom.specs.Winding.{wind_by}
use Rattle.scad_geom.specs.Loop.{sides}
use Rattle.slice_loops.specs.Drawing.{AreDrawn}
use Rattle.slice_loops.specs.Outlines.{AreOutlines}

-- the sides of the loops that are drawn from edges are these edges in another order
abbrev pub SidesAreEdges : Type 0
SidesAreEdges = (edges : List Edge) (loops : List (List Pt)) → AreDrawn edges loops
    → IsPermutation edges (flat_map sides loops)

-- from the same edges, in whatever order, the same loops are drawn
abbrev pub LoopsAreOne : Type 0
LoopsAreOne =
    (edges others : List Edge) (loops more : List (List Pt)) → IsPermutation edges others → AreDrawn edges loops
    → AreDrawn others more → loops ≡ more

-- and the same outlines are made
abbrev pub OutlinesAreOne : Type 0
OutlinesAreOne =
    (edges others : List Edge) (outlines more : List (List Pt)) → IsPermutation edges others
    → AreOutlines edges outlines → AreOutlines others more
    → outlines ≡ more

-- outlines wind round each point, and hard by it above or below and right or left, as the edges that they are made of
abbrev pub OutlinesKeepWinding : Type 0
OutlinesKeepWinding =
    (edges : List Edge) (outlines : List (List Pt)) → AreOutlines edges outlines → (above right : Bool) (q : Point)
    → pos 0 <ℤ q.d
    → wind_by above right q (segments (flat_map sides outlines)) ≡ wind_by above right q (segments edges)
