-- Edges made of segments and of other edges: with rounded ends, the other way round, two as one.
use Rattle.std.specs.Prelude.{not, Bool}
use Rattle.scad_geom.specs.declared.point.Pt.{Pt}
use Rattle.scad_geom.specs.declared.point.Edge.{Edge}
use Rattle.scad_geom.specs.Point.{Point, whole, is_same_point}
use Rattle.scad_geom.specs.Segment.{Segment}
use Rattle.scad_geom.specs.Rounding.{half_down}

-- the whole point nearest to a point, of two such coordinates the lower one
abbrev pub rounded : Point → Pt
rounded p = record { x = half_down p.x p.d; y = half_down p.y p.d }

-- the edge between the rounded ends of a segment
abbrev pub rounded_edge : Segment → Edge
rounded_edge s = record { a = rounded s.from; b = rounded s.to }

-- whether the ends of an edge differ
abbrev pub has_length : Edge → Bool
has_length e = not (is_same_point (whole e.a) (whole e.b))

-- from the start of the first to the end of the second
abbrev pub joined : Segment → Segment → Segment
joined s t = record { from = s.from; to = t.to }

-- the edge that runs the other way
abbrev pub turned : Edge → Edge
turned e = record { a = e.b; b = e.a }
