-- The runs of a line of infill: the maximal stretches of its whole points that are deep inside outlines.
use Rattle.std.specs.Prelude.{ℕ, ◌≤◌, unsigned_abs, List, [], ◌∷◌, ℤ, pos, ◌+ℤ◌, ◌-ℤ◌, ◌<ℤ◌, ◌≤ℤ◌, All, Contains, ◌≢◌}
use Rattle.std.specs.Prelude.{flat_map}
use Rattle.scad_geom.specs.declared.point.Pt.{Pt}
use Rattle.plan_infill.specs.declared.line.Line.{Line}
use Rattle.plan_infill.specs.declared.line.Line.TheVariants.{Row, Column}
use Rattle.plan_infill.specs.declared.run.Run.{Run}
use Rattle.scad_geom.specs.Point.{whole}
use Rattle.scad_geom.specs.Segment.{segments}
use Rattle.scad_geom.specs.Loop.{sides}
use Rattle.scad_geom.specs.Winding.{wind}
use Rattle.scad_ring.specs.Octagon.{octagon_of}
use Rattle.scad_ring.specs.Nearness.{Open, IsClear}

-- outlines wind round q, and no point of a side differs from it by a point within the octagon of c, its border left out
pub record IsDeep (outlines : List (List Pt)) (c : ℕ) (q : Pt) : Type 0 where
  pub inside : wind (whole q) (segments (flat_map sides outlines)) ≢ pos 0
  pub apart : All (λ e. IsClear Open (octagon_of c) (whole q) (whole e.a) (whole e.b)) (flat_map sides outlines)

-- the whole point at a place of a line: a row goes from left to right, a column upwards
abbrev pub point_on : Line → ℤ → Pt
point_on (Row y) z = record { x = z; y = y }
point_on (Column x) z = record { x = x; y = z }

-- its coordinate isn't greater in size than the limit
abbrev pub IsLineWithin : ℕ → Line → Type 0
IsLineWithin limit (Row y) = unsigned_abs y ≤ limit
IsLineWithin limit (Column x) = unsigned_abs x ≤ limit

-- a run of at least a length: all its whole points are deep, and the next before and after it aren't
pub record IsRun (outlines : List (List Pt)) (c : ℕ) (line : Line) (least : ℕ) (r : Run) : Type 0 where
  pub long : pos least ≤ℤ (r.to -ℤ r.from)
  pub deep : (z : ℤ) → r.from ≤ℤ z → z ≤ℤ r.to → IsDeep outlines c (point_on line z)
  pub before : IsDeep outlines c (point_on line (r.from -ℤ pos 1)) → ⊥
  pub after : IsDeep outlines c (point_on line (r.to +ℤ pos 1)) → ⊥

-- each run ends before the next ones start
abbrev pub GoUp : List Run → Type 0
GoUp [] = Unit {0}
GoUp (r ∷ rs) = All (λ s. r.to <ℤ s.from) rs × GoUp rs

-- all runs of a line, upwards
pub record AreRuns (outlines : List (List Pt)) (c : ℕ) (line : Line) (least : ℕ) (runs : List Run) : Type 0 where
  pub upwards : GoUp runs
  pub each : All (IsRun outlines c line least) runs
  pub all : (r : Run) → IsRun outlines c line least r → Contains runs r
