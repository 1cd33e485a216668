-- The tests by which `octagon_meets` decides, of a segment from a to b that doesn't fall, as the point sees it. Only
-- the contracts of its parts cite them; what it promises is said in Nearness.
use Rattle.std.specs.Prelude.{Bool, if◌then◌else◌, ◌&&◌, ◌||◌, ℤ, pos, neg_ℤ, ◌+ℤ◌, ◌-ℤ◌, ◌*ℤ◌, int_le}

-- two numbers aren't both above w, nor both below -w
unfoldable pub overlaps : ℤ → ℤ → ℤ → Bool
overlaps w a b = (int_le a w || int_le b w) && (int_le (neg_ℤ w) a || int_le (neg_ℤ w) b)

-- at most w in size
unfoldable pub is_size : ℤ → ℤ → Bool
is_size w z = int_le z w && int_le (neg_ℤ w) z

-- how far the octagon with the corner (s, t) reaches to the sides of a way of x to the right and y upwards, times the
-- way's length
unfoldable pub breadth : ℤ → ℤ → ℤ → ℤ → ℤ
breadth s t x y =
    if int_le y x then s *ℤ x +ℤ t *ℤ y
    else (if int_le (x +ℤ y) (pos 0) then t *ℤ y -ℤ s *ℤ x
    else (if int_le (pos 0) x then s *ℤ y +ℤ t *ℤ x
    else s *ℤ y -ℤ t *ℤ x))

-- none of the octagon's half planes leaves out both ends, and the segment's line passes between the octagon's corners
abbrev pub passes : ℤ → ℤ → ℤ → ℤ → ℤ → ℤ → Bool
passes s u ax ay bx by =
    overlaps s ax bx && (overlaps s ay by &&
    (overlaps u (ax +ℤ ay) (bx +ℤ by) && (overlaps u (ax -ℤ ay) (bx -ℤ by)
    && is_size (breadth s (u -ℤ s) (bx -ℤ ax) (by -ℤ ay)) (ax *ℤ by -ℤ ay *ℤ bx))))
