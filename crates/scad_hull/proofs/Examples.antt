-- Hulls that the definitions compute.
use Rattle.std.proofs.Common.{◌≡◌, [], ◌∷◌, ℤ, pos, negsuc, Some, None, Ok, refl}
use Rattle.scad_hull.specs.Flat.{ring_hull_of}

abbrev at : ℤ → ℤ → ℤ × ℤ
at x y = (x, y)

-- a square with a doubled corner, a point inside and one on a side
ring-square : ring_hull_of (at (pos 4) (pos 4) ∷ at (pos 0) (pos 0) ∷ at (pos 2) (pos 1) ∷ at (pos 0) (pos 4)
    ∷ at (pos 4) (pos 0) ∷ at (pos 2) (pos 0) ∷ at (pos 4) (pos 4) ∷ [])
    ≡ Ok (Some (at (pos 0) (pos 0) ∷ at (pos 4) (pos 0) ∷ at (pos 4) (pos 4) ∷ at (pos 0) (pos 4) ∷ []))
ring-square = refl

-- it starts with the lowest and then leftmost point
ring-triangle : ring_hull_of (at (pos 3) (pos 7) ∷ at (pos 5) (negsuc 1) ∷ at (negsuc 4) (negsuc 1) ∷ [])
    ≡ Ok (Some (at (negsuc 4) (negsuc 1) ∷ at (pos 5) (negsuc 1) ∷ at (pos 3) (pos 7) ∷ []))
ring-triangle = refl

ring-line : ring_hull_of (at (pos 1) (pos 1) ∷ at (pos 3) (pos 3) ∷ at (pos 2) (pos 2) ∷ at (pos 1) (pos 1)
    ∷ [])
    ≡ Ok None
ring-line = refl

ring-point : ring_hull_of (at (pos 1) (pos 1) ∷ at (pos 1) (pos 1) ∷ []) ≡ Ok None
ring-point = refl

ring-none : ring_hull_of [] ≡ Ok None
ring-none = refl
