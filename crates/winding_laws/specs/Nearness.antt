-- Points near to one another, and segments far from a point. Near is what differs by a point of a region.
use Rattle.std.specs.Prelude.{List, ℤ, pos, ◌+ℤ◌, ◌-ℤ◌, ◌*ℤ◌, ◌<ℤ◌, ◌≤ℤ◌}
use Rattle.scad_geom.specs.Point.{Point}
use Rattle.scad_geom.specs.Near.{mean, IsClear}
use Rattle.scad_geom.specs.Segment.{Segment}
use Rattle.winding_laws.specs.Region.{HalfPlane, Holds}

-- p as q sees it: the difference p - q
abbrev pub seen_from : Point → Point → Point
seen_from q p = record { x = p.x *ℤ q.d -ℤ q.x *ℤ p.d; y = p.y *ℤ q.d -ℤ q.y *ℤ p.d; d = p.d *ℤ q.d }

-- p differs from q by a point of a region
abbrev pub IsNear : List HalfPlane → Point → Point → Type 0
IsNear region q p = Holds region (seen_from q p)

-- no point of the segment from a to b is near to q
abbrev pub IsFar : List HalfPlane → Point → Point → Point → Type 0
IsFar region q a b = (s t : ℤ) → pos 0 ≤ℤ s → pos 0 ≤ℤ t → pos 0 <ℤ (s +ℤ t)
    → IsNear region q (mean s t a b) → ⊥

-- a point's divisor is above 0
abbrev pub IsPoint : Point → Type 0
IsPoint p = pos 0 <ℤ p.d

-- a segment with ends that are points
pub record IsProper (s : Segment) : Type 0 where
  pub from : IsPoint s.from
  pub to : IsPoint s.to

-- no point of a segment is near to q
pub record IsFarSegment (region : List HalfPlane) (q : Point) (s : Segment) : Type 0 where
  pub proper : IsProper s
  pub far : IsFar region q s.from s.to

-- no point of a segment lies within h halves of q along both axes
pub record IsClearSegment (h : ℤ) (q : Point) (s : Segment) : Type 0 where
  pub proper : IsProper s
  pub clear : IsClear h q s.from s.to
