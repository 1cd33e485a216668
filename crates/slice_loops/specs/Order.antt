-- The order of edges: by start y, start x, end y, end x.
use Rattle.std.specs.Prelude.{Bool}
use Rattle.std.specs.Ordering.{ordering_then, is_lt}
use Rattle.std.specs.declared.cmp.Ordering.{Ordering}
use Rattle.scad_geom.specs.declared.point.Pt.{Pt}
use Rattle.scad_geom.specs.declared.point.Edge.{Edge}
use Rattle.scad_geom.specs.PointOrder.{point_cmp}

-- the order of edges: by their starts, then by their ends
abbrev pub edge_cmp : Edge → Edge → Ordering
edge_cmp e f = ordering_then (point_cmp e.a f.a) (point_cmp e.b f.b)

-- e is less than f
abbrev pub is_less : Edge → Edge → Bool
is_less e f = is_lt (edge_cmp e f)

-- e starts before a point
abbrev pub starts_before : Pt → Edge → Bool
starts_before p e = is_lt (point_cmp e.a p)
