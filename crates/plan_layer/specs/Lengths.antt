-- The moves of plans.
use Rattle.std.specs.Prelude.{ℕ, List, All}
use Rattle.scad_geom.specs.declared.point.Pt.{Pt}
use Rattle.slice_loops.specs.Lengths.{HasLength}
use Rattle.scad_words.specs.declared.settings.Settings.{Settings}
use Rattle.scad_words.specs.Settings.{AreInRange}
use Rattle.plan_layer.specs.Moves.{all_moves}
use Rattle.plan_layer.specs.Plan.{IsPlan}

-- ---- the law
-- Each move of a plan has a length.
abbrev pub PlansHaveLengths : Type 0
PlansHaveLengths =
    (outlines : List (List Pt)) (layer : ℕ) (s : Settings) (paths : List (List Pt)) (runs : ℕ) → AreInRange s
    → IsPlan outlines layer s paths runs
    → All HasLength (all_moves paths)
