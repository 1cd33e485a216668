-- Surfaces of triangles: their directed sides, and when they are closed (OpenSCAD User Manual, "polyhedron": every
-- face is joined to others along all of its sides).
use Rattle.std.specs.Prelude.{ℕ, List, [], ◌∷◌, Bool, ◌==◌, count_by}
use Rattle.std.specs.List.{flat_map, list_all}
use Rattle.scad_solid.specs.declared.side.Side.{Side}
use Rattle.scad_solid.specs.declared.triangle.Triangle.{Triangle}
use Rattle.scad_solid.specs.Side.{reversed, same_side}

-- the directed sides of a triangle, from each corner to the next
abbrev pub sides_of : Triangle → List Side
sides_of t = record { from = t.a; to = t.b } ∷ record { from = t.b; to = t.c } ∷ record { from = t.c; to = t.a } ∷ []

-- the directed sides of all triangles
abbrev pub sides : List Triangle → List Side
sides ts = flat_map sides_of ts

-- how often a directed side occurs
abbrev pub occurrences : Side → List Side → ℕ
occurrences s ss = count_by (same_side s) ss

-- each directed side occurs as often as its reverse. (One that ends where it starts is its own reverse.)
unfoldable pub is_closed : List Triangle → Bool
is_closed ts = list_all (λ s. occurrences s (sides ts) == occurrences (reversed s) (sides ts)) (sides ts)
