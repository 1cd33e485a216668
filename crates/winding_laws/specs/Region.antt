-- Convex regions round the origin, bounded by lines.
use Rattle.std.specs.Prelude.{List, [], ◌∷◌, ℤ, pos, ◌+ℤ◌, ◌-ℤ◌, ◌*ℤ◌, ◌≤ℤ◌}
use Rattle.std.specs.List.{AllByRecursion}
use Rattle.scad_geom.specs.Point.{Point}

-- the points (x, y) with a x + b y at most c
pub record HalfPlane : Type 0 where
  pub a : ℤ
  pub b : ℤ
  pub c : ℤ

-- a half plane holds a point
abbrev pub Bounds : Point → HalfPlane → Type 0
Bounds p h = (h.a *ℤ p.x +ℤ h.b *ℤ p.y) ≤ℤ (h.c *ℤ p.d)

-- a region is a list of half planes; it holds the points that all of them hold
abbrev pub Holds : List HalfPlane → Point → Type 0
Holds region p = AllByRecursion (Bounds p) region

-- it holds the origin
abbrev pub HoldsOrigin : List HalfPlane → Type 0
HoldsOrigin region = Holds region (record { x = pos 0; y = pos 0; d = pos 1 })

abbrev half_plane : ℤ → ℤ → ℤ → HalfPlane
half_plane a b c = record { a = a; b = b; c = c }

-- the square of the points at most h / n from the origin along both axes
abbrev pub box : ℤ → ℤ → List HalfPlane
box n h = half_plane n (pos 0) h ∷ half_plane (pos 0 -ℤ n) (pos 0) h ∷ half_plane (pos 0) n h
    ∷ half_plane (pos 0) (pos 0 -ℤ n) h ∷ []

-- the same counted in halves
abbrev pub square : ℤ → List HalfPlane
square h = box (pos 2) h

-- points of r and of s, added, give points of t
pub record AddUp (r s t : List HalfPlane) : Type 0 where
  pub each : (x y z w d : ℤ) → Holds r (record { x = x; y = y; d = d }) → Holds s (record { x = z; y = w; d = d })
      → Holds t (record { x = x +ℤ z; y = y +ℤ w; d = d })
