-- The clearance that walls keep from the outlines that they follow.
use Rattle.std.specs.Prelude.{◌≢◌, ℕ, List, flat_map, pos, ◌-ℤ◌, ◌<ℤ◌, All}
use Rattle.scad_geom.specs.declared.point.Pt.{Pt}
use Rattle.scad_geom.specs.declared.point.Edge.{Edge}
use Rattle.scad_geom.specs.Point.{Point, whole}
use Rattle.scad_geom.specs.Segment.{segments}
use Rattle.scad_geom.specs.Loop.{sides}
use Rattle.scad_geom.specs.Winding.{wind}
use Rattle.winding_laws.specs.Region.{HalfPlane}
use Rattle.winding_laws.specs.Points.{IsOn}
use Rattle.scad_ring.specs.Octagon.{reach, octagon}
use Rattle.scad_ring.specs.Nearness.{Closed, IsClear}

-- the clearance of a distance c: the octagon of c, less one micrometre along each axis and two along the sum of both. It
-- holds the differences (dx, dy) with |dx| and |dy| at most c - 1 and |dx| + |dy| at most reach c - 2
abbrev pub clearance : ℕ → List HalfPlane
clearance c = octagon (pos c -ℤ pos 1) (pos (reach c) -ℤ pos 2)

-- no point of a side of outlines differs from q by a point of the clearance of c, and they wind round q
pub record KeepsWithin (outlines : List (List Pt)) (c : ℕ) (q : Point) : Type 0 where
  pub clear : All (λ e. IsClear Closed (clearance c) q (whole e.a) (whole e.b)) (flat_map sides outlines)
  pub inside : wind q (segments (flat_map sides outlines)) ≢ pos 0

-- each point of an edge keeps the clearance of c from each side of outlines, and they wind round it
abbrev pub KeepsClear : List (List Pt) → ℕ → Edge → Type 0
KeepsClear outlines c e = (q : Point) → pos 0 <ℤ q.d → IsOn (whole e.a) (whole e.b) q → KeepsWithin outlines c q

-- so it is of each point of each side of loops
abbrev pub KeepClear : List (List Pt) → ℕ → List (List Pt) → Type 0
KeepClear outlines c loops = All
    (λ e. (q : Point) → pos 0 <ℤ q.d → IsOn (whole e.a) (whole e.b) q → KeepsWithin outlines c q)
    (flat_map sides loops)

-- no point of a side of outlines differs from q by a point of the clearance of c
abbrev pub IsApart : List (List Pt) → ℕ → Point → Type 0
IsApart outlines c q = All (λ e. IsClear Closed (clearance c) q (whole e.a) (whole e.b)) (flat_map sides outlines)

-- so it is of each point of each side of loops
abbrev pub StayApart : List (List Pt) → ℕ → List (List Pt) → Type 0
StayApart outlines c loops = All
    (λ e. (q : Point) → pos 0 <ℤ q.d → IsOn (whole e.a) (whole e.b) q → IsApart outlines c q)
    (flat_map sides loops)
