-- Solids of rings that lie one behind another on a way that comes back to its start: bands of quads alone.
use Rattle.std.specs.Prelude.{List, [], ◌∷◌, ◌++◌}
use Rattle.scad_geom.specs.declared.point3.Pt3.{Pt3}
use Rattle.scad_solid.specs.declared.triangle.Triangle.{Triangle}
use Rattle.scad_solid.specs.Solid.{fans}
use Rattle.scad_solid.specs.Stack.{band}

-- the bands from a ring to the next one, from that to its next, and so on
abbrev pub bands : List Pt3 → List (List Pt3) → List (List Pt3)
bands ring [] = []
bands ring (next ∷ rings) = band ring next ++ bands next rings

-- the faces of rings, the last of which is followed by the first
abbrev pub wrap_faces : List (List Pt3) → List (List Pt3)
wrap_faces [] = []
wrap_faces (first ∷ rings) = bands first (rings ++ first ∷ [])

-- the triangles of rings
unfoldable pub wrapped : List (List Pt3) → List Triangle
wrapped rings = fans (wrap_faces rings)
