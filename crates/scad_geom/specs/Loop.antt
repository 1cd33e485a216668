-- The sides of a closed outline.
use Rattle.std.specs.Prelude.{List, [], ◌∷◌}
use Rattle.scad_geom.specs.declared.point.Pt.{Pt}
use Rattle.scad_geom.specs.declared.point.Edge.{Edge}

-- the edges from a point through the next points to a last one
abbrev pub path : Pt → List Pt → Pt → List Edge
path from [] last = record { a = from; b = last } ∷ []
path from (p ∷ ps) last = record { a = from; b = p } ∷ path p ps last

-- the sides of a closed outline: from each vertex to the next, and from the last to the first
abbrev pub sides : List Pt → List Edge
sides [] = []
sides (p ∷ ps) = path p ps p
