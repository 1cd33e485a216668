-- What the faces of a polyhedron give: their triangles, or why they bound no solid (OpenSCAD User Manual, "polyhedron").
use Rattle.std.specs.Prelude.{ℕ, List, [], ◌∷◌, length, Bool, true, false, map, nat_le, nat_lt, if◌then◌else◌, Option, Some, None, Result, Ok, Err, pos, find, IsTrue}
use Rattle.std.specs.List.{flat_map, list_all, slice_index_or}
use Rattle.scad_geom.specs.declared.point3.Pt3.{Pt3}
use Rattle.scad_solid.specs.declared.triangle.Triangle.{Triangle}
use Rattle.scad_solid.specs.declared.fault.SolidFault.{SolidFault}
use Rattle.scad_solid.specs.declared.fault.SolidFault.TheVariants.{NotClosed, BadIndex, CoordinateRange, Memory}
use Rattle.scad_geom.specs.PointRange.{is_in_range}
use Rattle.scad_solid.specs.Range.{is_triangle_in_range}
use Rattle.scad_solid.specs.Surface.{is_closed}

-- what each solid keeps: its surface is closed, and every corner is in range
pub record IsSolid (ts : List Triangle) : Type 0 where
  pub closed : IsTrue (is_closed ts)
  pub in_range : IsTrue (list_all is_triangle_in_range ts)

-- the triangles with a corner p whose other two are neighbours among q and the points behind it
abbrev pub fan_around : Pt3 → Pt3 → List Pt3 → List Triangle
fan_around p q [] = []
fan_around p q (r ∷ rs) = record { a = p; b = q; c = r } ∷ fan_around p r rs

-- the triangles of a face: a fan from its first point
abbrev pub fan : List Pt3 → List Triangle
fan [] = []
fan (p ∷ []) = []
fan (p ∷ q ∷ rs) = fan_around p q rs

-- the triangles of all faces, in the order of the faces
abbrev pub fans : List (List Pt3) → List Triangle
fans faces = flat_map fan faces

-- the points that a face names; one that it doesn't name is the origin
abbrev pub corners : List Pt3 → List ℕ → List Pt3
corners points face = map (λ i. slice_index_or points i (record { x = pos 0; y = pos 0; z = pos 0 })) face

-- all numbers of a face name one of so many points
abbrev pub names_points : ℕ → List ℕ → Bool
names_points count face = list_all (λ i. nat_lt i count) face

-- the first number of a face that names none of so many points
abbrev pub first_bad : ℕ → List (List ℕ) → Option ℕ
first_bad count faces = find (λ i. nat_le count i) (flat_map (λ face. face) faces)

-- the triangles, unless a number was bad or they aren't closed
abbrev pub closed_or_not : Option ℕ → List Triangle → Result (List Triangle) SolidFault
closed_or_not (Some i) ts = Err (BadIndex i)
closed_or_not None ts = if is_closed ts then Ok ts else Err NotClosed

-- the triangles of the faces over these points: refused where a point is out of range, then where a face names no
-- point, then where they aren't closed
unfoldable pub solid_of : List Pt3 → List (List ℕ) → Result (List Triangle) SolidFault
solid_of points faces =
    if list_all is_in_range points then closed_or_not (first_bad (length points) faces) (fans (map (corners points) faces)) else Err CoordinateRange

-- the fault that stands for want of memory
abbrev pub is_memory : SolidFault → Bool
is_memory Memory = true
is_memory _ = false
