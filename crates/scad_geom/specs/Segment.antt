-- Directed segments between exact points: the edges of a layer, the cuts of a surface, the pieces of a border.
use Rattle.std.specs.Prelude.{List, map}
use Rattle.scad_geom.specs.declared.point.Edge.{Edge}
use Rattle.scad_geom.specs.Point.{Point, whole}

-- the straight way from one point to another
pub record Segment : Type 0 where
  pub from : Point
  pub to : Point

-- an edge's, from its start to its end
abbrev pub segment_of : Edge → Segment
segment_of e = record { from = whole e.a; to = whole e.b }

abbrev pub segments : List Edge → List Segment
segments es = map segment_of es
