-- The corners of the ring by an octagon, by the direction of the edge. The octagon has the half width c, and its
-- corners are (c, t), (t, c) and their mirror images.
use Rattle.std.specs.Prelude.{ℕ, if◌then◌else◌, cond, ◌&&◌, ◌||◌, Bool, List, [], ◌∷◌, ℤ, pos, ◌+ℤ◌, ◌-ℤ◌, neg_ℤ, int_lt, int_le}
use Rattle.scad_geom.specs.declared.point.Pt.{Pt}
use Rattle.scad_geom.specs.declared.point.Edge.{Edge}
use Rattle.scad_ring.specs.declared.direction.Direction.{Direction}
use Rattle.scad_ring.specs.declared.direction.Direction.TheVariants.{Still, Flat, Right, DiagonalRight, SteepRight, Upright, SteepLeft, DiagonalLeft, Left}
use Rattle.scad_ring.specs.Octagon.{slant}

-- a corner
abbrev pub at : ℤ → ℤ → Pt
at x y = record { x = x; y = y }

-- ---- directions
-- an edge runs backwards where its end lies before its start, by height and then from the left
abbrev pub runs_back : Edge → Bool
runs_back e = int_lt e.b.y e.a.y || (int_le e.b.y e.a.y && int_lt e.b.x e.a.x)

-- the direction of a way of x to the right and y upwards that doesn't run backwards
unfoldable pub direction_of : ℤ → ℤ → Direction
direction_of x y =
    if int_lt (pos 0) y
    then (if int_lt (pos 0) x
    then (if int_lt y x then Right else (if int_lt x y then SteepRight else DiagonalRight))
    else (if int_lt x (pos 0)
    then (if int_lt y (neg_ℤ x) then Left else (if int_lt (neg_ℤ x) y then SteepLeft else DiagonalLeft))
    else Upright))
    else (if int_lt (pos 0) x then Flat else Still)

-- ---- the corners of the octagon round a point, counter-clockwise from the lowest and then leftmost
abbrev pub low_left : ℤ → ℤ → Pt → Pt
low_left c t p = at (p.x -ℤ t) (p.y -ℤ c)

abbrev pub low_right : ℤ → ℤ → Pt → Pt
low_right c t p = at (p.x +ℤ t) (p.y -ℤ c)

abbrev pub right_low : ℤ → ℤ → Pt → Pt
right_low c t p = at (p.x +ℤ c) (p.y -ℤ t)

abbrev pub right_high : ℤ → ℤ → Pt → Pt
right_high c t p = at (p.x +ℤ c) (p.y +ℤ t)

abbrev pub high_right : ℤ → ℤ → Pt → Pt
high_right c t p = at (p.x +ℤ t) (p.y +ℤ c)

abbrev pub high_left : ℤ → ℤ → Pt → Pt
high_left c t p = at (p.x -ℤ t) (p.y +ℤ c)

abbrev pub left_high : ℤ → ℤ → Pt → Pt
left_high c t p = at (p.x -ℤ c) (p.y +ℤ t)

abbrev pub left_low : ℤ → ℤ → Pt → Pt
left_low c t p = at (p.x -ℤ c) (p.y -ℤ t)

-- where t is 0 they fall together two by two
abbrev pub low : ℤ → Pt → Pt
low c p = at p.x (p.y -ℤ c)

abbrev pub right : ℤ → Pt → Pt
right c p = at (p.x +ℤ c) p.y

abbrev pub high : ℤ → Pt → Pt
high c p = at p.x (p.y +ℤ c)

abbrev pub left : ℤ → Pt → Pt
left c p = at (p.x -ℤ c) p.y

-- ---- the ring
-- round the edge from p to r, of an octagon with eight corners: ten corners, and eight where the edge is a point or
-- runs along the octagon's sides
abbrev pub eight_sided : ℤ → ℤ → Pt → Pt → Direction → List Pt
eight_sided c t p r Still =
    low_left c t p ∷ low_right c t r ∷ right_low c t r ∷ right_high c t r
    ∷ high_right c t r ∷ high_left c t p ∷ left_high c t p ∷ left_low c t p ∷ []
eight_sided c t p r Flat =
    low_left c t p ∷ low_right c t r ∷ right_low c t r ∷ right_high c t r
    ∷ high_right c t r ∷ high_left c t p ∷ left_high c t p ∷ left_low c t p ∷ []
eight_sided c t p r Right =
    low_left c t p ∷ low_right c t p ∷ low_right c t r ∷ right_low c t r ∷ right_high c t r
    ∷ high_right c t r ∷ high_left c t r ∷ high_left c t p ∷ left_high c t p ∷ left_low c t p ∷ []
eight_sided c t p r DiagonalRight =
    low_left c t p ∷ low_right c t p ∷ right_low c t r ∷ right_high c t r
    ∷ high_right c t r ∷ high_left c t r ∷ left_high c t p ∷ left_low c t p ∷ []
eight_sided c t p r SteepRight =
    low_left c t p ∷ low_right c t p ∷ right_low c t p ∷ right_low c t r ∷ right_high c t r
    ∷ high_right c t r ∷ high_left c t r ∷ left_high c t r ∷ left_high c t p ∷ left_low c t p ∷ []
eight_sided c t p r Upright =
    low_left c t p ∷ low_right c t p ∷ right_low c t p ∷ right_high c t r
    ∷ high_right c t r ∷ high_left c t r ∷ left_high c t r ∷ left_low c t p ∷ []
eight_sided c t p r SteepLeft =
    low_left c t p ∷ low_right c t p ∷ right_low c t p ∷ right_high c t p ∷ right_high c t r
    ∷ high_right c t r ∷ high_left c t r ∷ left_high c t r ∷ left_low c t r ∷ left_low c t p ∷ []
eight_sided c t p r DiagonalLeft =
    low_left c t p ∷ low_right c t p ∷ right_low c t p ∷ right_high c t p
    ∷ high_right c t r ∷ high_left c t r ∷ left_high c t r ∷ left_low c t r ∷ []
eight_sided c t p r Left =
    low_left c t p ∷ low_right c t p ∷ right_low c t p ∷ right_high c t p ∷ high_right c t p
    ∷ high_right c t r ∷ high_left c t r ∷ left_high c t r ∷ left_low c t r ∷ low_left c t r ∷ []

-- of one with four corners: six corners, and four where the edge is a point or runs along the octagon's sides
abbrev pub four_sided : ℤ → Pt → Pt → Direction → List Pt
four_sided c p r Still = low c p ∷ right c r ∷ high c r ∷ left c p ∷ []
four_sided c p r Flat = low c p ∷ low c r ∷ right c r ∷ high c r ∷ high c p ∷ left c p ∷ []
four_sided c p r Right = low c p ∷ low c r ∷ right c r ∷ high c r ∷ high c p ∷ left c p ∷ []
four_sided c p r DiagonalRight = low c p ∷ right c r ∷ high c r ∷ left c p ∷ []
four_sided c p r SteepRight = low c p ∷ right c p ∷ right c r ∷ high c r ∷ left c r ∷ left c p ∷ []
four_sided c p r Upright = low c p ∷ right c p ∷ right c r ∷ high c r ∷ left c r ∷ left c p ∷ []
four_sided c p r SteepLeft = low c p ∷ right c p ∷ right c r ∷ high c r ∷ left c r ∷ left c p ∷ []
four_sided c p r DiagonalLeft = low c p ∷ right c p ∷ high c r ∷ left c r ∷ []
four_sided c p r Left = low c p ∷ right c p ∷ high c p ∷ high c r ∷ left c r ∷ low c r ∷ []

abbrev pub corners_round : ℤ → ℤ → Pt → Pt → List Pt
corners_round c t p r =
    if int_lt (pos 0) t
    then eight_sided c t p r (direction_of (r.x -ℤ p.x) (r.y -ℤ p.y))
    else four_sided c p r (direction_of (r.x -ℤ p.x) (r.y -ℤ p.y))

abbrev pub corners_of : ℕ → Edge → List Pt
corners_of c e =
    cond (runs_back e) (corners_round (pos c) (pos (slant c)) e.b e.a) (corners_round (pos c) (pos (slant c)) e.a e.b)
