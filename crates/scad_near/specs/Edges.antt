-- Two segments near to each other: some point of the one is near to some point of the other. The points of a segment are
-- the means of its ends by weights from 0 that aren't both 0.
use Rattle.std.specs.Prelude.{List, ℤ, pos, ◌+ℤ◌, ◌<ℤ◌, ◌≤ℤ◌}
use Rattle.scad_geom.specs.Point.{Point}
use Rattle.scad_geom.specs.Near.{mean}
use Rattle.winding_laws.specs.Region.{HalfPlane}
use Rattle.scad_ring.specs.Nearness.{Border, Meets, IsClear}

-- some point of the segment from c to d is near to a point of the segment from a to b
pub record ComeNear (border : Border) (region : List HalfPlane) (a b c d : Point) : Type 0 where
  pub s : ℤ
  pub t : ℤ
  pub from : pos 0 ≤ℤ s
  pub to : pos 0 ≤ℤ t
  pub some : pos 0 <ℤ (s +ℤ t)
  pub meets : Meets border region (mean s t a b) c d

-- no point of the segment from c to d is near to any point of the segment from a to b
abbrev pub AreApart : Border → List HalfPlane → Point → Point → Point → Point → Type 0
AreApart border region a b c d = (s t : ℤ) → pos 0 ≤ℤ s → pos 0 ≤ℤ t → pos 0 <ℤ (s +ℤ t)
    → IsClear border region (mean s t a b) c d
