-- The ends of runs.
use Rattle.std.specs.Prelude.{◌≢◌, ℕ, ◌≤◌, List}
use Rattle.scad_geom.specs.declared.point.Pt.{Pt}
use Rattle.plan_infill.specs.declared.line.Line.{Line}
use Rattle.plan_infill.specs.declared.run.Run.{Run}
use Rattle.plan_infill.specs.Runs.{point_on, IsRun}

-- ---- the law
-- The ends of a run differ where it has to have some length.
abbrev pub RunsHaveLengths : Type 0
RunsHaveLengths =
    (outlines : List (List Pt)) (c : ℕ) (line : Line) (least : ℕ) (r : Run) → 1 ≤ least
    → IsRun outlines c line least r
    → point_on line r.from ≢ point_on line r.to
