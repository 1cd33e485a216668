-- That a line has its runs.
use Rattle.std.specs.Prelude.{ℕ, List}
use Rattle.scad_geom.specs.declared.point.Pt.{Pt}
use Rattle.plan_infill.specs.declared.line.Line.{Line}
use Rattle.plan_infill.specs.declared.run.Run.{Run}
use Rattle.plan_infill.specs.Runs.{AreRuns}

-- there is a list of all runs of a line
pub record HasRuns (outlines : List (List Pt)) (c : ℕ) (line : Line) (least : ℕ) : Type 0 where
  pub runs : List Run
  pub are_runs : AreRuns outlines c line least runs

-- ---- the law
-- Each line has its runs, whatever the outlines, the distance and the least length.
abbrev pub RunsAreThere : Type 0
RunsAreThere = (outlines : List (List Pt)) (c : ℕ) (line : Line) (least : ℕ) → HasRuns outlines c line least
