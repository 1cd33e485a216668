-- The clearance that the moves of a plan keep from the outlines.
use Rattle.std.specs.Prelude.{ℕ, ◌/◌, ◌≤◌, List, All}
use Rattle.scad_geom.specs.declared.point.Pt.{Pt}
use Rattle.plan_infill.specs.declared.line.Line.{Line}
use Rattle.plan_infill.specs.declared.run.Run.{Run}
use Rattle.plan_infill.specs.Runs.{point_on, IsRun}
use Rattle.plan_walls.specs.Clearance.{KeepsClear}
use Rattle.scad_words.specs.declared.settings.Settings.{Settings}
use Rattle.scad_words.specs.Settings.{AreInRange}
use Rattle.plan_layer.specs.Moves.{all_moves}
use Rattle.plan_layer.specs.Plan.{IsPlan}

-- each point of each move along paths keeps the clearance of c from outlines, and they wind round it
abbrev pub PathsKeepClear : List (List Pt) → ℕ → List (List Pt) → Type 0
PathsKeepClear outlines c paths = All (KeepsClear outlines c) (all_moves paths)

-- ---- the laws
-- The whole points of a run are deep inside outlines by the distance c; each exact point of it keeps the clearance of c.
abbrev pub RunsKeepClear : Type 0
RunsKeepClear =
    (outlines : List (List Pt)) (c least : ℕ) (line : Line) (r : Run) → 2 ≤ c → IsRun outlines c line least r
    → KeepsClear outlines c (record { a = point_on line r.from; b = point_on line r.to })

-- Each point of each move of a plan keeps the clearance of half the width of a line.
abbrev pub PlansKeepClear : Type 0
PlansKeepClear =
    (outlines : List (List Pt)) (layer : ℕ) (s : Settings) (paths : List (List Pt)) (runs : ℕ) → AreInRange s
    → IsPlan outlines layer s paths runs
    → PathsKeepClear outlines (s.line_width / 2) paths
