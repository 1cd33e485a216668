-- What lies near a point along both axes. A distance is counted in halves: `pos 1` is one half of a micrometre, `pos 2` one.
use Rattle.std.specs.Prelude.{◌≤ℤ◌, ◌<ℤ◌, ℤ, pos, ◌+ℤ◌, ◌-ℤ◌, ◌*ℤ◌}
use Rattle.scad_geom.specs.Point.{Point}

-- the point of the segment from a to b that parts it by these weights. With weights from 0 that aren't both 0 these are the
-- segment's points; (s a + t b) / (s + t) where the ends have one divisor
abbrev pub mean : ℤ → ℤ → Point → Point → Point
mean s t a b = record { x = s *ℤ a.x +ℤ t *ℤ b.x; y = s *ℤ a.y +ℤ t *ℤ b.y; d = s *ℤ a.d +ℤ t *ℤ b.d }

-- x / w is at most h halves in size
pub record IsHalf (h x w : ℤ) : Type 0 where
  pub from : (pos 0 -ℤ h *ℤ w) ≤ℤ (pos 2 *ℤ x)
  pub to : (pos 2 *ℤ x) ≤ℤ (h *ℤ w)

-- p lies within h halves of q along both axes
pub record IsClose (h : ℤ) (q p : Point) : Type 0 where
  pub across : IsHalf h (p.x *ℤ q.d -ℤ q.x *ℤ p.d) (p.d *ℤ q.d)
  pub along : IsHalf h (p.y *ℤ q.d -ℤ q.y *ℤ p.d) (p.d *ℤ q.d)

-- some point of the segment from a to b lies within h halves of q along both axes
pub record MeetsBox (h : ℤ) (q a b : Point) : Type 0 where
  pub s : ℤ
  pub t : ℤ
  pub from : pos 0 ≤ℤ s
  pub to : pos 0 ≤ℤ t
  pub some : pos 0 <ℤ (s +ℤ t)
  pub close : IsClose h q (mean s t a b)

-- no point of the segment from a to b does
abbrev pub IsClear : ℤ → Point → Point → Point → Type 0
IsClear h q a b = (s t : ℤ) → pos 0 ≤ℤ s → pos 0 ≤ℤ t → pos 0 <ℤ (s +ℤ t) → ¬ IsClose h q (mean s t a b)
