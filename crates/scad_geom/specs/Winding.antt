-- Winding numbers. The winding number of a list of segments round a point is the sum of their signed crossings of the ray
-- from the point to the right: 1 for each that crosses it upwards, -1 for each that crosses it downwards.
-- A point on a segment or at the height of an end has four neighbours, hard by it above or below and right or left: `above`
-- counts an end at the point's height as lying below, else as lying above it, and `right` leaves out a segment through the
-- point, else it is counted. Above and right is the winding number itself.
use Rattle.std.specs.Prelude.{Bool, true, if◌then◌else◌, List, [], ◌∷◌, ℤ, pos, ◌+ℤ◌, ◌-ℤ◌, ◌*ℤ◌, int_lt, int_le}
use Rattle.scad_geom.specs.Point.{Point}
use Rattle.scad_geom.specs.Segment.{Segment}

-- 1 where a test holds, else 0
abbrev pub counted : Bool → ℤ
counted b = if b then pos 1 else pos 0

-- whether b lies above the height of p; `above` leaves out that it lies at it
unfoldable pub is_over : Bool → Point → Point → Bool
is_over above p b = if above then int_lt (p.y *ℤ b.d) (b.y *ℤ p.d) else int_le (p.y *ℤ b.d) (b.y *ℤ p.d)

-- how the segment from a to b passes the height of p: 1 upwards, -1 downwards, 0 where both ends or none lie above it
unfoldable pub passage_by : Bool → Point → Point → Point → ℤ
passage_by above p a b = counted (is_over above p b) -ℤ counted (is_over above p a)

-- above 0 where p lies to the left of the segment from a to b, 0 where it lies on its line: the cross product of b - a
-- and p - a, over the product of the divisors
unfoldable pub side_by : Point → Point → Point → ℤ
side_by p a b = (b.x *ℤ a.d -ℤ a.x *ℤ b.d) *ℤ (p.y *ℤ a.d -ℤ a.y *ℤ p.d) -ℤ (b.y *ℤ a.d -ℤ a.y *ℤ b.d) *ℤ (p.x *ℤ a.d -ℤ a.x *ℤ p.d)

-- above 0; at `right` false also 0
unfoldable pub is_beyond : Bool → ℤ → Bool
is_beyond right z = if right then int_lt (pos 0) z else int_le (pos 0) z

-- the passage of the segment from a to b where its x at the height of p is greater than that of p, else 0. A segment that
-- passes upwards has the point to its left there, one that passes downwards to its right
unfoldable pub turn : Bool → Bool → Point → Point → Point → ℤ
turn above right p a b = if is_beyond right (passage_by above p a b *ℤ side_by p a b) then passage_by above p a b else pos 0

-- the winding number of segments hard by a point
abbrev pub wind_by : Bool → Bool → Point → List Segment → ℤ
wind_by above right p [] = pos 0
wind_by above right p (s ∷ ss) = turn above right p s.from s.to +ℤ wind_by above right p ss

-- the winding number of segments round a point
abbrev pub wind : Point → List Segment → ℤ
wind p ss = wind_by true true p ss
