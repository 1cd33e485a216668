-- What holds of the list of corners for each direction holds of a ring by an octagon: its corners are few, and within
-- the limit of a layer's coordinates.
use Rattle.std.proofs.Common.{ℕ, ◌≤◌, Bool, true, false, cond, List, length, arith, ℤ, pos, ◌-ℤ◌}
use Rattle.std.specs.Prelude.{int_lt, if◌then◌else◌, unsigned_abs}
use Rattle.std.specs.List.{AllByRecursion}
use Rattle.std.proofs.lemmas.Int.{ints}
use Rattle.scad_geom.specs.declared.point.Pt.{Pt}
use Rattle.scad_geom.specs.declared.point.Edge.{Edge}
use Rattle.scad_geom.specs.Limits.{point_limit, coordinate_limit}
use Rattle.scad_geom.specs.Within.{IsWithin, IsEdgeWithin}
use Rattle.scad_ring.specs.Limits.{distance_limit}
use Rattle.scad_ring.specs.Octagon.{slant}
use Rattle.scad_ring.specs.declared.direction.Direction.{Direction}
use Rattle.scad_ring.specs.declared.direction.Direction.TheVariants.{Still, Flat, Right, DiagonalRight, SteepRight, Upright, SteepLeft, DiagonalLeft, Left}
use Rattle.scad_ring.specs.Corners.{direction_of, runs_back, eight_sided, four_sided, corners_round, corners_of, low_left, low_right, right_low, right_high, high_right, high_left, left_high, left_low, low, right, high, left}

-- of either way along an edge
pub by_shape : (P : List Pt → Type 0) (c : ℕ) (e : Edge)
    → ((w : Direction) → P (eight_sided (pos c) (pos (slant c)) e.a e.b w))
    → ((w : Direction) → P (eight_sided (pos c) (pos (slant c)) e.b e.a w))
    → ((w : Direction) → P (four_sided (pos c) e.a e.b w))
    → ((w : Direction) → P (four_sided (pos c) e.b e.a w)) → P (corners_of c e)
by_shape P c e eight eight_back four four_back = by_order (runs_back e)
  where
    by_slant : (p r : Pt) → ((w : Direction) → P (eight_sided (pos c) (pos (slant c)) p r w))
        → ((w : Direction) → P (four_sided (pos c) p r w)) → P (corners_round (pos c) (pos (slant c)) p r)
    by_slant p r h k = choose (int_lt (pos 0) (pos (slant c)))
      where
        choose : (z : Bool) → P (if z
            then eight_sided (pos c) (pos (slant c)) p r (direction_of (r.x -ℤ p.x) (r.y -ℤ p.y))
            else four_sided (pos c) p r (direction_of (r.x -ℤ p.x) (r.y -ℤ p.y)))
        choose true = h (direction_of (r.x -ℤ p.x) (r.y -ℤ p.y))
        choose false = k (direction_of (r.x -ℤ p.x) (r.y -ℤ p.y))

    by_order : (z : Bool) → P (cond z (corners_round (pos c) (pos (slant c)) e.b e.a)
        (corners_round (pos c) (pos (slant c)) e.a e.b))
    by_order true = by_slant e.b e.a eight_back four_back
    by_order false = by_slant e.a e.b eight four

-- ---- how many
eight_sided-few : (c t : ℤ) (p r : Pt) (w : Direction) → length (eight_sided c t p r w) ≤ 10
eight_sided-few c t p r Still = omega arith
eight_sided-few c t p r Flat = omega arith
eight_sided-few c t p r Right = omega arith
eight_sided-few c t p r DiagonalRight = omega arith
eight_sided-few c t p r SteepRight = omega arith
eight_sided-few c t p r Upright = omega arith
eight_sided-few c t p r SteepLeft = omega arith
eight_sided-few c t p r DiagonalLeft = omega arith
eight_sided-few c t p r Left = omega arith

four_sided-few : (c : ℤ) (p r : Pt) (w : Direction) → length (four_sided c p r w) ≤ 10
four_sided-few c p r Still = omega arith
four_sided-few c p r Flat = omega arith
four_sided-few c p r Right = omega arith
four_sided-few c p r DiagonalRight = omega arith
four_sided-few c p r SteepRight = omega arith
four_sided-few c p r Upright = omega arith
four_sided-few c p r SteepLeft = omega arith
four_sided-few c p r DiagonalLeft = omega arith
four_sided-few c p r Left = omega arith

-- a ring has at most ten corners
pub corners_of-few : (c : ℕ) (e : Edge) → length (corners_of c e) ≤ 10
corners_of-few c e = by_shape (λ l. length l ≤ 10) c e (eight_sided-few (pos c) (pos (slant c)) e.a e.b)
    (eight_sided-few (pos c) (pos (slant c)) e.b e.a) (four_sided-few (pos c) e.a e.b)
    (four_sided-few (pos c) e.b e.a)

-- it has at least three
eight_sided-several : (c t : ℤ) (p r : Pt) (w : Direction) → 3 ≤ length (eight_sided c t p r w)
eight_sided-several c t p r Still = omega arith
eight_sided-several c t p r Flat = omega arith
eight_sided-several c t p r Right = omega arith
eight_sided-several c t p r DiagonalRight = omega arith
eight_sided-several c t p r SteepRight = omega arith
eight_sided-several c t p r Upright = omega arith
eight_sided-several c t p r SteepLeft = omega arith
eight_sided-several c t p r DiagonalLeft = omega arith
eight_sided-several c t p r Left = omega arith

four_sided-several : (c : ℤ) (p r : Pt) (w : Direction) → 3 ≤ length (four_sided c p r w)
four_sided-several c p r Still = omega arith
four_sided-several c p r Flat = omega arith
four_sided-several c p r Right = omega arith
four_sided-several c p r DiagonalRight = omega arith
four_sided-several c p r SteepRight = omega arith
four_sided-several c p r Upright = omega arith
four_sided-several c p r SteepLeft = omega arith
four_sided-several c p r DiagonalLeft = omega arith
four_sided-several c p r Left = omega arith

pub corners_of-several : (c : ℕ) (e : Edge) → 3 ≤ length (corners_of c e)
corners_of-several c e = by_shape (λ l. 3 ≤ length l) c e (eight_sided-several (pos c) (pos (slant c)) e.a e.b)
    (eight_sided-several (pos c) (pos (slant c)) e.b e.a) (four_sided-several (pos c) e.a e.b)
    (four_sided-several (pos c) e.b e.a)

-- ---- within the limit
module _ (c t : ℕ) (most : c ≤ distance_limit) (less : t ≤ c) (p : Pt) (h : IsWithin point_limit p) where
  x_is : unsigned_abs p.x ≤ point_limit
  x_is = h.x

  y_is : unsigned_abs p.y ≤ point_limit
  y_is = h.y

  low_left_within : IsWithin coordinate_limit (low_left (pos c) (pos t) p)
  low_left_within = record { x = omega (arith, ints, x_is, most, less); y = omega (arith, ints, y_is, most, less) }

  low_right_within : IsWithin coordinate_limit (low_right (pos c) (pos t) p)
  low_right_within = record { x = omega (arith, ints, x_is, most, less); y = omega (arith, ints, y_is, most, less) }

  right_low_within : IsWithin coordinate_limit (right_low (pos c) (pos t) p)
  right_low_within = record { x = omega (arith, ints, x_is, most, less); y = omega (arith, ints, y_is, most, less) }

  right_high_within : IsWithin coordinate_limit (right_high (pos c) (pos t) p)
  right_high_within = record { x = omega (arith, ints, x_is, most, less); y = omega (arith, ints, y_is, most, less) }

  high_right_within : IsWithin coordinate_limit (high_right (pos c) (pos t) p)
  high_right_within = record { x = omega (arith, ints, x_is, most, less); y = omega (arith, ints, y_is, most, less) }

  high_left_within : IsWithin coordinate_limit (high_left (pos c) (pos t) p)
  high_left_within = record { x = omega (arith, ints, x_is, most, less); y = omega (arith, ints, y_is, most, less) }

  left_high_within : IsWithin coordinate_limit (left_high (pos c) (pos t) p)
  left_high_within = record { x = omega (arith, ints, x_is, most, less); y = omega (arith, ints, y_is, most, less) }

  left_low_within : IsWithin coordinate_limit (left_low (pos c) (pos t) p)
  left_low_within = record { x = omega (arith, ints, x_is, most, less); y = omega (arith, ints, y_is, most, less) }

  low_within : IsWithin coordinate_limit (low (pos c) p)
  low_within = record { x = omega (arith, ints, x_is, most); y = omega (arith, ints, y_is, most) }

  right_within : IsWithin coordinate_limit (right (pos c) p)
  right_within = record { x = omega (arith, ints, x_is, most); y = omega (arith, ints, y_is, most) }

  high_within : IsWithin coordinate_limit (high (pos c) p)
  high_within = record { x = omega (arith, ints, x_is, most); y = omega (arith, ints, y_is, most) }

  left_within : IsWithin coordinate_limit (left (pos c) p)
  left_within = record { x = omega (arith, ints, x_is, most); y = omega (arith, ints, y_is, most) }

abbrev Within : List Pt → Type 0
Within l = AllByRecursion (IsWithin coordinate_limit) l

module _ (c t : ℕ) (most : c ≤ distance_limit) (less : t ≤ c) (p r : Pt) (hp : IsWithin point_limit p)
    (hr : IsWithin point_limit r) where
  eight_within : (w : Direction) → Within (eight_sided (pos c) (pos t) p r w)
  eight_within Still = (
    low_left_within c t most less p hp,
    (
      low_right_within c t most less r hr,
      (
        right_low_within c t most less r hr,
        (
          right_high_within c t most less r hr,
          (
            high_right_within c t most less r hr,
            (
              high_left_within c t most less p hp,
              (left_high_within c t most less p hp, (left_low_within c t most less p hp, tt)),
            ),
          ),
        ),
      ),
    ),
  )
  eight_within Flat = (
    low_left_within c t most less p hp,
    (
      low_right_within c t most less r hr,
      (
        right_low_within c t most less r hr,
        (
          right_high_within c t most less r hr,
          (
            high_right_within c t most less r hr,
            (
              high_left_within c t most less p hp,
              (left_high_within c t most less p hp, (left_low_within c t most less p hp, tt)),
            ),
          ),
        ),
      ),
    ),
  )
  eight_within Right = (
    low_left_within c t most less p hp,
    (
      low_right_within c t most less p hp,
      (
        low_right_within c t most less r hr,
        (
          right_low_within c t most less r hr,
          (
            right_high_within c t most less r hr,
            (
              high_right_within c t most less r hr,
              (
                high_left_within c t most less r hr,
                (
                  high_left_within c t most less p hp,
                  (left_high_within c t most less p hp, (left_low_within c t most less p hp, tt)),
                ),
              ),
            ),
          ),
        ),
      ),
    ),
  )
  eight_within DiagonalRight = (
    low_left_within c t most less p hp,
    (
      low_right_within c t most less p hp,
      (
        right_low_within c t most less r hr,
        (
          right_high_within c t most less r hr,
          (
            high_right_within c t most less r hr,
            (
              high_left_within c t most less r hr,
              (left_high_within c t most less p hp, (left_low_within c t most less p hp, tt)),
            ),
          ),
        ),
      ),
    ),
  )
  eight_within SteepRight = (
    low_left_within c t most less p hp,
    (
      low_right_within c t most less p hp,
      (
        right_low_within c t most less p hp,
        (
          right_low_within c t most less r hr,
          (
            right_high_within c t most less r hr,
            (
              high_right_within c t most less r hr,
              (
                high_left_within c t most less r hr,
                (
                  left_high_within c t most less r hr,
                  (left_high_within c t most less p hp, (left_low_within c t most less p hp, tt)),
                ),
              ),
            ),
          ),
        ),
      ),
    ),
  )
  eight_within Upright = (
    low_left_within c t most less p hp,
    (
      low_right_within c t most less p hp,
      (
        right_low_within c t most less p hp,
        (
          right_high_within c t most less r hr,
          (
            high_right_within c t most less r hr,
            (
              high_left_within c t most less r hr,
              (left_high_within c t most less r hr, (left_low_within c t most less p hp, tt)),
            ),
          ),
        ),
      ),
    ),
  )
  eight_within SteepLeft = (
    low_left_within c t most less p hp,
    (
      low_right_within c t most less p hp,
      (
        right_low_within c t most less p hp,
        (
          right_high_within c t most less p hp,
          (
            right_high_within c t most less r hr,
            (
              high_right_within c t most less r hr,
              (
                high_left_within c t most less r hr,
                (
                  left_high_within c t most less r hr,
                  (left_low_within c t most less r hr, (left_low_within c t most less p hp, tt)),
                ),
              ),
            ),
          ),
        ),
      ),
    ),
  )
  eight_within DiagonalLeft = (
    low_left_within c t most less p hp,
    (
      low_right_within c t most less p hp,
      (
        right_low_within c t most less p hp,
        (
          right_high_within c t most less p hp,
          (
            high_right_within c t most less r hr,
            (
              high_left_within c t most less r hr,
              (left_high_within c t most less r hr, (left_low_within c t most less r hr, tt)),
            ),
          ),
        ),
      ),
    ),
  )
  eight_within Left = (
    low_left_within c t most less p hp,
    (
      low_right_within c t most less p hp,
      (
        right_low_within c t most less p hp,
        (
          right_high_within c t most less p hp,
          (
            high_right_within c t most less p hp,
            (
              high_right_within c t most less r hr,
              (
                high_left_within c t most less r hr,
                (
                  left_high_within c t most less r hr,
                  (left_low_within c t most less r hr, (low_left_within c t most less r hr, tt)),
                ),
              ),
            ),
          ),
        ),
      ),
    ),
  )

  four_within : (w : Direction) → Within (four_sided (pos c) p r w)
  four_within Still = (
    low_within c t most less p hp,
    (right_within c t most less r hr, (high_within c t most less r hr, (left_within c t most less p hp, tt))),
  )
  four_within Flat = (
    low_within c t most less p hp,
    (
      low_within c t most less r hr,
      (
        right_within c t most less r hr,
        (high_within c t most less r hr, (high_within c t most less p hp, (left_within c t most less p hp, tt))),
      ),
    ),
  )
  four_within Right = (
    low_within c t most less p hp,
    (
      low_within c t most less r hr,
      (
        right_within c t most less r hr,
        (high_within c t most less r hr, (high_within c t most less p hp, (left_within c t most less p hp, tt))),
      ),
    ),
  )
  four_within DiagonalRight = (
    low_within c t most less p hp,
    (right_within c t most less r hr, (high_within c t most less r hr, (left_within c t most less p hp, tt))),
  )
  four_within SteepRight = (
    low_within c t most less p hp,
    (
      right_within c t most less p hp,
      (
        right_within c t most less r hr,
        (high_within c t most less r hr, (left_within c t most less r hr, (left_within c t most less p hp, tt))),
      ),
    ),
  )
  four_within Upright = (
    low_within c t most less p hp,
    (
      right_within c t most less p hp,
      (
        right_within c t most less r hr,
        (high_within c t most less r hr, (left_within c t most less r hr, (left_within c t most less p hp, tt))),
      ),
    ),
  )
  four_within SteepLeft = (
    low_within c t most less p hp,
    (
      right_within c t most less p hp,
      (
        right_within c t most less r hr,
        (high_within c t most less r hr, (left_within c t most less r hr, (left_within c t most less p hp, tt))),
      ),
    ),
  )
  four_within DiagonalLeft = (
    low_within c t most less p hp,
    (right_within c t most less p hp, (high_within c t most less r hr, (left_within c t most less r hr, tt))),
  )
  four_within Left = (
    low_within c t most less p hp,
    (
      right_within c t most less p hp,
      (
        high_within c t most less p hp,
        (
          high_within c t most less r hr,
          (left_within c t most less r hr, (low_within c t most less r hr, tt)),
        ),
      ),
    ),
  )

slant_most : (c : ℕ) → slant c ≤ c
slant_most c = omega arith

-- the corners of a ring round an edge of a layer
pub corners_of-within : (c : ℕ) → c ≤ distance_limit → (e : Edge) → IsEdgeWithin point_limit e
    → AllByRecursion (IsWithin coordinate_limit) (corners_of c e)
corners_of-within c most e h = by_shape Within c e
    (eight_within c (slant c) most (slant_most c) e.a e.b h.a h.b)
    (eight_within c (slant c) most (slant_most c) e.b e.a h.b h.a)
    (four_within c (slant c) most (slant_most c) e.a e.b h.a h.b)
    (four_within c (slant c) most (slant_most c) e.b e.a h.b h.a)
