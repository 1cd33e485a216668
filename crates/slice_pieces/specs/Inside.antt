-- The points inside a segment: those strictly between its ends.
use Rattle.std.specs.Prelude.{pos, ◌≡◌, ◌⊎◌, ◌*ℤ◌, ◌<ℤ◌}
use Rattle.scad_geom.specs.Point.{Point}
use Rattle.scad_geom.specs.Winding.{side_by}
use Rattle.winding_laws.specs.Approach.{AreLevel}

-- ---- one point lies below another, to its left
abbrev pub IsBelow : Point → Point → Type 0
IsBelow p q = (p.y *ℤ q.d) <ℤ (q.y *ℤ p.d)

abbrev pub IsLeftOf : Point → Point → Type 0
IsLeftOf p q = (p.x *ℤ q.d) <ℤ (q.x *ℤ p.d)

-- by one of these orders, p strictly between a and b
abbrev pub IsBetween : (Point → Point → Type 0) → Point → Point → Point → Type 0
IsBetween R a p b = (R a p × R p b) ⊎ (R b p × R p a)

-- a point on the straight line from a to b, strictly between them
pub record IsInside (a b p : Point) : Type 0 where
  pub on_line : side_by p a b ≡ pos 0
  pub between : IsBetween IsBelow a p b ⊎ (AreLevel a p × AreLevel p b × IsBetween IsLeftOf a p b)
