-- Hulls of points of space that the definitions compute.
use Rattle.std.proofs.Common.{◌≡◌, List, [], ◌∷◌, ℤ, pos, true, refl}
use Rattle.scad_geom.specs.declared.point3.Pt3.{Pt3}
use Rattle.scad_hull.specs.Faces.{faces_of, are_flat}
use Rattle.scad_hull.specs.Space.{space_cmp}
use Rattle.scad_hull.specs.Distinct.{distinct}

abbrev at : ℤ → ℤ → ℤ → Pt3
at x y z = record { x = x; y = y; z = z }

-- a tetrahedron with a doubled corner, and a point within a side
abbrev tetrahedron : List Pt3
tetrahedron = at (pos 0) (pos 0) (pos 2) ∷ at (pos 0) (pos 0) (pos 0) ∷ at (pos 2) (pos 0) (pos 0)
    ∷ at (pos 1) (pos 0) (pos 0) ∷ at (pos 0) (pos 2) (pos 0) ∷ at (pos 0) (pos 0) (pos 0) ∷ []

pub faces-tetrahedron : faces_of (distinct space_cmp tetrahedron) ≡
    (at (pos 0) (pos 0) (pos 0) ∷ at (pos 2) (pos 0) (pos 0) ∷ at (pos 0) (pos 2) (pos 0) ∷ [])
    ∷ (at (pos 0) (pos 0) (pos 0) ∷ at (pos 0) (pos 2) (pos 0) ∷ at (pos 0) (pos 0) (pos 2) ∷ [])
    ∷ (at (pos 0) (pos 0) (pos 0) ∷ at (pos 0) (pos 0) (pos 2) ∷ at (pos 2) (pos 0) (pos 0) ∷ [])
    ∷ (at (pos 2) (pos 0) (pos 0) ∷ at (pos 0) (pos 0) (pos 2) ∷ at (pos 0) (pos 2) (pos 0) ∷ []) ∷ []
faces-tetrahedron = refl

-- four points in a plane, and three on a line
flat-square : are_flat (at (pos 0) (pos 0) (pos 0) ∷ at (pos 2) (pos 0) (pos 1) ∷ at (pos 0) (pos 2) (pos 1)
    ∷ at (pos 2) (pos 2) (pos 2) ∷ []) ≡ true
flat-square = refl

flat-line : are_flat (at (pos 0) (pos 0) (pos 0) ∷ at (pos 1) (pos 1) (pos 1) ∷ at (pos 3) (pos 3) (pos 3) ∷ [])
    ≡ true
flat-line = refl
