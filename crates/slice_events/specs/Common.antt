-- What it means that two edges meet, and that they cross: by their common points.
use Rattle.std.specs.Prelude.{◌≡◌, ◌⊎◌, ◌↔◌, true, ℤ, pos, ◌+ℤ◌, ◌-ℤ◌, ◌*ℤ◌, ◌<ℤ◌, ◌≤ℤ◌}
use Rattle.scad_geom.specs.declared.point.Pt.{Pt}
use Rattle.scad_geom.specs.declared.point.Edge.{Edge}
use Rattle.scad_geom.specs.Point.{Point}
use Rattle.scad_geom.specs.Meeting.{meets}
use Rattle.slice_events.specs.Levels.{crosses}

-- p is a point of the way from a to b: the mean of both by weights of which none is below 0
pub record IsBetween (a b : Pt) (p : Point) : Type 0 where
  pub s : ℤ
  pub t : ℤ
  pub first : pos 0 ≤ℤ s
  pub second : pos 0 ≤ℤ t
  pub some : pos 0 <ℤ (s +ℤ t)
  pub x : (s +ℤ t) *ℤ p.x ≡ (s *ℤ a.x +ℤ t *ℤ b.x) *ℤ p.d
  pub y : (s +ℤ t) *ℤ p.y ≡ (s *ℤ a.y +ℤ t *ℤ b.y) *ℤ p.d

-- p is a point of both edges
pub record IsCommon (e f : Edge) (p : Point) : Type 0 where
  pub positive : pos 0 <ℤ p.d
  pub of_first : IsBetween e.a e.b p
  pub of_second : IsBetween f.a f.b p

-- the ways along both edges have the same or opposite directions, or one of them has no length
abbrev pub AreParallel : Edge → Edge → Type 0
AreParallel e f = (e.b.x -ℤ e.a.x) *ℤ (f.b.y -ℤ f.a.y) ≡ (e.b.y -ℤ e.a.y) *ℤ (f.b.x -ℤ f.a.x)

-- p is the point v
abbrev pub IsAt : Pt → Point → Type 0
IsAt v p = (p.x ≡ v.x *ℤ p.d) × (p.y ≡ v.y *ℤ p.d)

abbrev pub IsEndOf : Edge → Point → Type 0
IsEndOf e p = IsAt e.a p ⊎ IsAt e.b p

-- edges that aren't parallel and have a common point
pub record Meet (e f : Edge) : Type 0 where
  pub slanted : AreParallel e f → ⊥
  pub point : Point
  pub common : IsCommon e f point

-- edges that aren't parallel and have a common point that isn't an end of both
pub record Cross (e f : Edge) : Type 0 where
  pub slanted : AreParallel e f → ⊥
  pub point : Point
  pub common : IsCommon e f point
  pub inner : IsEndOf e point → IsEndOf f point → ⊥

-- ---- the laws
-- The test of meeting says that edges meet,
abbrev pub MeetsSaysMeet : Type 0
MeetsSaysMeet = (e f : Edge) → (meets e f ≡ true) ↔ Meet e f

-- and that of crossing, by which crossings are counted, that they cross.
abbrev pub CrossesSaysCross : Type 0
CrossesSaysCross = (e f : Edge) → (crosses e f ≡ true) ↔ Cross e f
