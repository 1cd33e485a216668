-- The extruding moves along paths.
use Rattle.std.specs.Prelude.{ℕ, List, [], ◌∷◌, flat_map}
use Rattle.scad_geom.specs.declared.point.Pt.{Pt}
use Rattle.scad_geom.specs.declared.point.Edge.{Edge}

-- from a point through further ones
abbrev pub moves_from : Pt → List Pt → List Edge
moves_from from [] = []
moves_from from (to ∷ ps) = record { a = from; b = to } ∷ moves_from to ps

-- along a path: from each point to the next
abbrev pub moves : List Pt → List Edge
moves [] = []
moves (p ∷ ps) = moves_from p ps

-- along paths, one after another
abbrev pub all_moves : List (List Pt) → List Edge
all_moves paths = flat_map moves paths

-- the most moves of a layer
abbrev pub move_limit : ℕ
move_limit = 200000
