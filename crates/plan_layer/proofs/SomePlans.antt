-- A layer has a plan: its walls one by one, and its lines of infill.
use Rattle.std.proofs.Common.{◌≡◌, ℕ, zero, suc, ◌+◌, true, List, [], ◌∷◌, ◌++◌, length, refl, ap}
use Rattle.scad_geom.specs.declared.point.Pt.{Pt}
use Rattle.plan_layer.specs.Plan.{distance, AreWallsFrom, wall_paths}
use Rattle.plan_layer.specs.Infill.{infill_paths}
use Rattle.plan_layer.specs.There.{HasWalls, PlansAreThere}
use Rattle.plan_layer.proofs.SomeWalls.{walls_are_there}
use Rattle.plan_layer.proofs.SomeLines.{HasLines, some_lines}

-- n walls one inside of another, wall k first
record HasWallsFrom (width k : ℕ) (outlines : List (List Pt)) (n : ℕ) : Type 0 where
  walls : List (List (List Pt))
  count : length walls ≡ n
  are_walls : AreWallsFrom width k outlines walls

some_walls : (width k : ℕ) (outlines : List (List Pt)) (n : ℕ) → HasWallsFrom width k outlines n
some_walls width k outlines zero = record { walls = []; count = refl; are_walls = tt }
some_walls width k outlines (suc n) =
    let w : HasWalls (distance width k) outlines = walls_are_there (distance width k) outlines in
    let r : HasWallsFrom width (k + 1) outlines n = some_walls width (k + 1) outlines n in
    record { walls = w.loops ∷ r.walls; count = ap suc r.count; are_walls = (w.are_walls, r.are_walls) }

pub plans_are_there : PlansAreThere
plans_are_there outlines layer s =
    let w : HasWallsFrom s.line_width 0 outlines s.walls = some_walls s.line_width 0 outlines s.walls in
    let l : HasLines outlines layer s = some_lines outlines layer s in
    record {
      paths = wall_paths w.walls ++ infill_paths layer true l.lines;
      runs = length (infill_paths layer true l.lines);
      is_plan = record {
        walls = wall_paths w.walls;
        lines = l.lines;
        are_walls = record { walls = w.walls; count = w.count; are_walls = w.are_walls; paths_are = refl };
        are_filled = l.are_filled;
        paths_are = refl;
        runs_are = refl;
      };
    }
