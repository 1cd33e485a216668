-- Closed ways round a point.
use Rattle.std.specs.Prelude.{Bool, List, ◌∷◌, pos, ◌<ℤ◌, All}
use Rattle.scad_geom.specs.declared.point.Pt.{Pt}
use Rattle.scad_geom.specs.Point.{Point}
use Rattle.scad_geom.specs.Segment.{Segment, segments}
use Rattle.scad_geom.specs.Loop.{sides}
use Rattle.scad_geom.specs.Winding.{wind_by, side_by}

-- q lies to the left of a segment
abbrev pub IsStrictlyLeftOf : Point → Segment → Type 0
IsStrictlyLeftOf q s = pos 0 <ℤ side_by q s.from s.to

-- ---- the law
-- A closed way with a point to the left of each of its sides winds round it counter-clockwise, hard by it on each side.
abbrev pub LeftIsWound : Type 0
LeftIsWound =
    (corner : Pt) (corners : List Pt) (q : Point) → pos 0 <ℤ q.d
    → All (IsStrictlyLeftOf q) (segments (sides (corner ∷ corners)))
    → (above right : Bool) → pos 0 <ℤ wind_by above right q (segments (sides (corner ∷ corners)))
