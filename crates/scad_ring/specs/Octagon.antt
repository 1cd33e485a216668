-- The octagon of a distance c: nearly a disc of that radius, with whole corners.
use Rattle.std.specs.Prelude.{ℕ, ◌+◌, ◌*◌, ◌/◌, List, [], ◌∷◌, ℤ, pos, neg_ℤ}
use Rattle.winding_laws.specs.Region.{HalfPlane}

-- how far a corner at c along one axis lies along the other: about c times the tangent of an eighth of a half turn,
-- rounded down
abbrev pub slant : ℕ → ℕ
slant c = c * 414214 / 1000000

-- how far the octagon of c reaches along the sum of both axes: the greatest |x| + |y| of its points
abbrev pub reach : ℕ → ℕ
reach c = c + slant c

abbrev half_plane : ℤ → ℤ → ℤ → HalfPlane
half_plane a b c = record { a = a; b = b; c = c }

-- the points (x, y) with |x| at most s, |y| at most s and |x| + |y| at most u
abbrev pub octagon : ℤ → ℤ → List HalfPlane
octagon s u =
    half_plane (pos 1) (pos 0) s ∷ half_plane (neg_ℤ (pos 1)) (pos 0) s
    ∷ half_plane (pos 0) (pos 1) s ∷ half_plane (pos 0) (neg_ℤ (pos 1)) s
    ∷ half_plane (pos 1) (pos 1) u ∷ half_plane (pos 1) (neg_ℤ (pos 1)) u
    ∷ half_plane (neg_ℤ (pos 1)) (pos 1) u ∷ half_plane (neg_ℤ (pos 1)) (neg_ℤ (pos 1)) u ∷ []

-- the octagon of c
abbrev pub octagon_of : ℕ → List HalfPlane
octagon_of c = octagon (pos c) (pos (reach c))
