-- What the roundings, the roots and the recognition of literals mean.
use Rattle.std.specs.Prelude.{◌≡◌, ℕ, ◌+◌, ◌*◌, ◌^◌, ◌<◌, ◌≤◌, List, true, ◌↔◌, ℤ, pos, neg_ℤ, ◌+ℤ◌, ◌*ℤ◌, ◌<ℤ◌, ◌≤ℤ◌, unsigned_abs}
use Rattle.scad_num.specs.Literal.{Literal, IsLongestLiteral, literal_len, is_literal}
use Rattle.scad_num.specs.Number.{one, floor_of, ceil_of}
use Rattle.scad_num.specs.Root.{root}
use Rattle.scad_num.specs.Rounding.{half_up, half_away}

-- q - 1/2 ≤ n / d < q + 1/2, so a half goes upwards
pub record IsNearest (n d q : ℕ) : Type 0 where
  pub not_above : 2 * d * q ≤ 2 * n + d
  pub not_below : 2 * n < 2 * d * q + d

-- the rounded quotient is the nearest whole number
abbrev pub RoundsToNearest : Type 0
RoundsToNearest = (n d : ℕ) → 0 < d → IsNearest n d (half_up n d)

-- the size is rounded, whatever the sign is: a half goes away from zero
abbrev pub RoundsAwayFromZero : Type 0
RoundsAwayFromZero = (z : ℤ) (d : ℕ) → 0 < d
    → IsNearest (unsigned_abs z) d (unsigned_abs (half_away z d)) × (half_away (neg_ℤ z) d ≡ neg_ℤ (half_away z d))

-- so many millionths are a whole number
abbrev pub IsWhole : ℤ → Type 0
IsWhole z = (k : ℤ) × (z ≡ k *ℤ pos one)

-- f ≤ z < f + 1
pub record IsFloor (z f : ℤ) : Type 0 where
  pub whole : IsWhole f
  pub not_above : f ≤ℤ z
  pub not_below : z <ℤ (f +ℤ pos one)

-- c - 1 < z ≤ c
pub record IsCeiling (z c : ℤ) : Type 0 where
  pub whole : IsWhole c
  pub not_below : z ≤ℤ c
  pub not_above : c <ℤ (z +ℤ pos one)

abbrev pub FloorsAndCeilings : Type 0
FloorsAndCeilings = (z : ℤ) → IsFloor z (floor_of z) × IsCeiling z (ceil_of z)

-- r is the greatest whole number whose square is not above n
pub record IsRoot (n r : ℕ) : Type 0 where
  pub square_le : r * r ≤ n
  pub next_square_gt : n < (r + 1) * (r + 1)

-- the whole root is one, and there is one such number
abbrev pub RootsAreWhole : Type 0
RootsAreWhole = (n : ℕ) → n < 2 ^ 128 → IsRoot n (root n) × ((r : ℕ) → IsRoot n r → r ≡ root n)

-- the length that is found is that of the longest literal in front
abbrev pub LiteralsAreLongest : Type 0
LiteralsAreLongest = (bytes : List ℕ) → IsLongestLiteral bytes (literal_len bytes)

-- a text is recognised exactly where it is a literal
abbrev pub LiteralsAreRecognised : Type 0
LiteralsAreRecognised = (bytes : List ℕ) → (is_literal bytes ≡ true) ↔ Literal bytes
