-- The plan of a layer: the loops of its walls as paths, from the outermost wall on, and then its infill.
use Rattle.std.specs.Prelude.{◌≡◌, true, ℕ, List, ◌++◌, ◌+◌, ◌*◌, ◌/◌, [], ◌∷◌, length, map, flat_map}
use Rattle.scad_geom.specs.declared.point.Pt.{Pt}
use Rattle.scad_words.specs.declared.settings.Settings.{Settings}
use Rattle.plan_layer.specs.Infill.{LineRuns, AreFilled, infill_paths}
use Rattle.plan_walls.specs.Walls.{AreWalls}

-- how far wall k lies inside the outlines: half the width of a line, and k whole widths
abbrev pub distance : ℕ → ℕ → ℕ
distance width k = width / 2 + k * width

-- the loops of walls one inside of another, wall k first
abbrev pub AreWallsFrom : ℕ → ℕ → List (List Pt) → List (List (List Pt)) → Type 0
AreWallsFrom width k outlines [] = Unit {0}
AreWallsFrom width k outlines (loops ∷ walls) =
    AreWalls (distance width k) outlines loops × AreWallsFrom width (k + 1) outlines walls

-- a loop as a path: from its first vertex round to it again
abbrev pub round : List Pt → List Pt
round [] = []
round (p ∷ ps) = (p ∷ ps) ++ p ∷ []

-- the loops of walls as paths
abbrev pub wall_paths : List (List (List Pt)) → List (List Pt)
wall_paths walls = flat_map (λ loops. map round loops) walls

-- paths are those of a number of walls
pub record AreWallPaths (outlines : List (List Pt)) (s : Settings) (paths : List (List Pt)) : Type 0 where
  pub walls : List (List (List Pt))
  pub count : length walls ≡ s.walls
  pub are_walls : AreWallsFrom s.line_width 0 outlines walls
  pub paths_are : paths ≡ wall_paths walls

-- the paths of a layer: the loops of its walls, from the outermost wall on, and then its infill, beginning upwards; so
-- many of them, the last ones, are runs of infill
pub record IsPlan (outlines : List (List Pt)) (layer : ℕ) (s : Settings) (paths : List (List Pt)) (runs : ℕ) : Type 0
  where
    pub walls : List (List Pt)
    pub lines : List LineRuns
    pub are_walls : AreWallPaths outlines s walls
    pub are_filled : AreFilled outlines layer s lines
    pub paths_are : paths ≡ walls ++ infill_paths layer true lines
    pub runs_are : runs ≡ length (infill_paths layer true lines)
