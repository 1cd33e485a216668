-- Points of a segment, and its parts between them.
use Rattle.std.specs.Prelude.{◌≡◌, ◌⊎◌, List, ℤ, pos, ◌+ℤ◌}
use Rattle.scad_geom.specs.Point.{Point}
use Rattle.scad_geom.specs.Near.{IsClose, IsClear}
use Rattle.scad_geom.specs.Winding.{side_by}
use Rattle.winding_laws.specs.Region.{HalfPlane, AddUp}
use Rattle.winding_laws.specs.Nearness.{IsPoint, IsNear, IsFar}
use Rattle.winding_laws.specs.Points.{IsOn, IsBetween}

-- ---- the laws
-- A point on the line of a segment that lies strictly between the ends, by height or along the other axis, is a point
-- of the
-- segment.
pub record BetweenIsOn : Type 0 where
  pub heights : (a b p : Point) → IsPoint a → IsPoint b → IsPoint p → side_by p a b ≡ pos 0
      → IsBetween (λ q. q.y) a p b → IsOn a b p
  pub places : (a b p : Point) → IsPoint a → IsPoint b → IsPoint p → side_by p a b ≡ pos 0
      → IsBetween (λ q. q.x) a p b → IsOn a b p

-- A point of a part is a point of the whole.
abbrev pub PartsAreOn : Type 0
PartsAreOn = (a b c d p : Point) → IsOn a b c → IsOn a b d → IsOn c d p → IsOn a b p

-- Of a segment cut at one of its points each point is a point of a part.
abbrev pub PartsAreAll : Type 0
PartsAreAll = (a b m p : Point) → IsOn a b m → IsOn a b p → IsOn a m p ⊎ IsOn m b p

-- What is far from the whole is far from a part, and what is far from both parts is far from the whole.
pub record PartsAreFar : Type 0 where
  pub part : (region : List HalfPlane) (q a b c d : Point) → IsOn a b c → IsOn a b d → IsFar region q a b
      → IsFar region q c d
  pub whole : (region : List HalfPlane) (q a b m : Point) → IsOn a b m → IsFar region q a m → IsFar region q m b
      → IsFar region q a b

-- The same of what is clear by h halves.
pub record PartsAreClear : Type 0 where
  pub part : (h : ℤ) (q a b c d : Point) → IsOn a b c → IsOn a b d → IsClear h q a b → IsClear h q c d
  pub whole : (h : ℤ) (q a b m : Point) → IsOn a b m → IsClear h q a m → IsClear h q m b → IsClear h q a b

-- Where the ends of a segment are moved by points of a region s, what was far from it by the sum of r and s stays far
-- by r.
abbrev pub MovesStayFar : Type 0
MovesStayFar =
    (r s t : List HalfPlane) → AddUp r s t → (q a b c d : Point) → IsPoint q → IsPoint a → IsPoint b
    → IsPoint c → IsPoint d
    → IsFar t q a b → IsNear s c a → IsNear s d b → IsFar r q c d

-- Where they are moved by at most k halves along each axis, what was clear of it by h + k halves stays clear by h.
abbrev pub MovesStayClear : Type 0
MovesStayClear =
    (h k : ℤ) (q a b c d : Point) → IsPoint q → IsPoint a → IsPoint b → IsPoint c → IsPoint d
    → IsClear (h +ℤ k) q a b
    → IsClose k c a → IsClose k d b → IsClear h q c d
