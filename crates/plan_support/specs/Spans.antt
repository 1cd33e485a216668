-- The points of support lines that outlines wind round.
use Rattle.std.specs.Prelude.{◌≡◌, ◌≢◌, ℕ, List, [], ◌∷◌, ◌++◌, ℤ, pos, flat_map}
use Rattle.scad_geom.specs.declared.point.Pt.{Pt}
use Rattle.scad_geom.specs.Point.{whole}
use Rattle.scad_geom.specs.Segment.{segments}
use Rattle.scad_geom.specs.Loop.{sides}
use Rattle.scad_geom.specs.Winding.{wind}
use Rattle.plan_infill.specs.Multiple.{IsMultiple}
use Rattle.plan_infill.specs.declared.line.Line.TheVariants.{Row as AtHeight}
use Rattle.plan_infill.specs.declared.run.Run.{Run}
use Rattle.plan_infill.specs.Runs.{AreRuns}
use Rattle.plan_support.specs.Rows.{Row, AreRowsOf}

-- the whole point at (x, y)
abbrev pub point_at : ℤ → ℤ → Pt
point_at x y = record { x = x; y = y }

-- the winding number of outlines round a whole point isn't 0
abbrev pub IsWound : List (List Pt) → Pt → Type 0
IsWound outlines q = wind (whole q) (segments (flat_map sides outlines)) ≢ pos 0

-- the whole point (x, y) lies on a support line, and outlines wind round it
pub record IsSpanned (outlines : List (List Pt)) (spacing : ℕ) (x y : ℤ) : Type 0 where
  pub line : IsMultiple spacing y
  pub wound : IsWound outlines (point_at x y)

-- on each support line the maximal stretches of whole points that outlines wind round
abbrev pub AreSpans : List (List Pt) → ℕ → List Row → Type 0
AreSpans outlines spacing rows = AreRowsOf (IsSpanned outlines spacing) 0 rows

-- the row at a height, where it has runs
abbrev pub row_of : ℤ → List Run → List Row
row_of y [] = []
row_of y (r ∷ rs) = record { y = y; runs = r ∷ rs } ∷ []

-- to rows the runs at one height are added, as runs that are deep by nothing
pub record AddsSpans (outlines : List (List Pt)) (y : ℤ) (old new : List Row) : Type 0 where
  pub runs : List Run
  pub are_runs : AreRuns outlines 0 (AtHeight y) 0 runs
  pub added : new ≡ old ++ row_of y runs
