-- Solids of rings that lie one over another: a top, bands of quads, a bottom.
use Rattle.std.specs.Prelude.{List, [], ◌∷◌, ◌++◌, length, reverse, map, Bool, true, ◌==◌}
use Rattle.std.specs.List.{zip, list_all}
use Rattle.scad_geom.specs.declared.point3.Pt3.{Pt3}
use Rattle.scad_solid.specs.declared.side.Side.{Side}
use Rattle.scad_solid.specs.declared.triangle.Triangle.{Triangle}
use Rattle.scad_geom.specs.PointRange.{is_in_range}
use Rattle.scad_solid.specs.Solid.{fans}

-- the sides from a point through the next points to a last one
abbrev pub path : Pt3 → List Pt3 → Pt3 → List Side
path p [] last = record { from = p; to = last } ∷ []
path p (q ∷ qs) last = record { from = p; to = q } ∷ path q qs last

-- the sides of a ring: from each point to the next, and from the last to the first
abbrev pub ring_sides : List Pt3 → List Side
ring_sides [] = []
ring_sides (p ∷ ps) = path p ps p

-- the quad between a side of a ring and the side below it
abbrev pub quad : Side × Side → List Pt3
quad (upper, lower) = upper.from ∷ upper.to ∷ lower.to ∷ lower.from ∷ []

-- the quads between a ring and the one below it, in the order of the sides
abbrev pub band : List Pt3 → List Pt3 → List (List Pt3)
band upper lower = map quad (zip (ring_sides upper) (ring_sides lower))

-- the bands downwards from a ring, and the last ring from its first point to its last
abbrev pub faces_below : List Pt3 → List (List Pt3) → List (List Pt3)
faces_below ring [] = ring ∷ []
faces_below ring (next ∷ rings) = band ring next ++ faces_below next rings

-- the faces of rings, the top one first: it is taken from its last point to its first
abbrev pub stack_faces : List (List Pt3) → List (List Pt3)
stack_faces [] = []
stack_faces (top ∷ rings) = reverse top ∷ faces_below top rings

-- the triangles of rings
unfoldable pub stacked : List (List Pt3) → List Triangle
stacked rings = fans (stack_faces rings)

-- all rings have as many points as the first
abbrev pub are_alike : List (List Pt3) → Bool
are_alike [] = true
are_alike (top ∷ rings) = list_all (λ ring. length ring == length top) rings

-- all points of all rings are in range
abbrev pub rings_in_range : List (List Pt3) → Bool
rings_in_range rings = list_all (λ ring. list_all is_in_range ring) rings
