-- The order of edges by their spans, the two points between which they run, whichever way.
use Rattle.std.specs.Prelude.{Bool, cond, List}
use Rattle.std.specs.Ordering.{ordering_then, is_lt}
use Rattle.std.specs.declared.cmp.Ordering.{Ordering}
use Rattle.scad_geom.specs.declared.point.Pt.{Pt}
use Rattle.scad_geom.specs.declared.point.Edge.{Edge}
use Rattle.scad_geom.specs.PointOrder.{point_cmp, IsAscendingBy}

-- the lesser end of an edge, and the greater one
abbrev pub lesser : Edge → Pt
lesser e = cond (is_lt (point_cmp e.b e.a)) e.b e.a

abbrev pub greater : Edge → Pt
greater e = cond (is_lt (point_cmp e.b e.a)) e.a e.b

-- edges by their lesser ends, then by their greater ones
abbrev pub span_cmp : Edge → Edge → Ordering
span_cmp e f = ordering_then (point_cmp (lesser e) (lesser f)) (point_cmp (greater e) (greater f))

abbrev pub is_less : Edge → Edge → Bool
is_less e f = is_lt (span_cmp e f)

-- no edge is less than one before it
abbrev pub IsAscending : List Edge → Type 0
IsAscending edges = IsAscendingBy is_less edges
