-- Nearness by a region: a point is near to another where it differs from it by a point of the region. The region is
-- taken with its border, closed, or without it, open.
use Rattle.std.specs.Prelude.{List, ℤ, pos, ◌+ℤ◌, ◌*ℤ◌, ◌<ℤ◌, ◌≤ℤ◌}
use Rattle.std.specs.List.{AllByRecursion}
use Rattle.scad_geom.specs.Point.{Point}
use Rattle.scad_geom.specs.Near.{mean}
use Rattle.winding_laws.specs.Region.{HalfPlane}
use Rattle.winding_laws.specs.Nearness.{seen_from}

pub data Border : Type 0 where
  Closed : Border
  Open : Border

-- at most, or less than
abbrev pub IsBy : Border → ℤ → ℤ → Type 0
IsBy Closed x y = x ≤ℤ y
IsBy Open x y = x <ℤ y

-- a half plane, with its border or without, holds a point
abbrev pub Bounds : Border → Point → HalfPlane → Type 0
Bounds border p h = IsBy border (h.a *ℤ p.x +ℤ h.b *ℤ p.y) (h.c *ℤ p.d)

-- p differs from q by a point of the region
abbrev pub IsWithinRegion : Border → List HalfPlane → Point → Point → Type 0
IsWithinRegion border region q p = AllByRecursion (Bounds border (seen_from q p)) region

-- some point of the segment from a to b is near to q
pub record Meets (border : Border) (region : List HalfPlane) (q a b : Point) : Type 0 where
  pub s : ℤ
  pub t : ℤ
  pub from : pos 0 ≤ℤ s
  pub to : pos 0 ≤ℤ t
  pub some : pos 0 <ℤ (s +ℤ t)
  pub near : IsWithinRegion border region q (mean s t a b)

-- no point of the segment from a to b is near to q
abbrev pub IsClear : Border → List HalfPlane → Point → Point → Point → Type 0
IsClear border region q a b = (s t : ℤ) → pos 0 ≤ℤ s → pos 0 ≤ℤ t → pos 0 <ℤ (s +ℤ t)
    → IsWithinRegion border region q (mean s t a b) → ⊥
