-- How many points the paths of a plan have: each has two or more.
use Rattle.std.proofs.Common.{◌≡◌, ◌≤◌, ◌+◌, ◌*◌, ℕ, Bool, true, false, not, List, [], ◌∷◌, length, map}
use Rattle.std.proofs.Common.{reverse, sym, subst, arith, length-append}
use Rattle.std.specs.Prelude.{All, nat_le}
use Rattle.std.specs.List.{AllByRecursion, sum_by}
use Rattle.std.proofs.lemmas.List.Sums.{sum_by-cons}
use Rattle.std.proofs.lemmas.List.Elements.{All-nil, All-append, All-map, All-weaker, filter_passes}
use Rattle.std.proofs.lemmas.List.Elements.{recursion_from_All, All-from_recursion}
use Rattle.scad_geom.specs.declared.point.Pt.{Pt}
use Rattle.slice_loops.specs.Corners.{corners}
use Rattle.plan_infill.specs.declared.line.Line.{Line}
use Rattle.plan_infill.specs.declared.run.Run.{Run}
use Rattle.plan_walls.specs.Walls.{AreWalls}
use Rattle.scad_words.specs.declared.settings.Settings.{Settings}
use Rattle.plan_layer.specs.Moves.{moves, all_moves}
use Rattle.plan_layer.specs.Plan.{AreWallsFrom, round, wall_paths, IsPlan}
use Rattle.plan_layer.specs.Infill.{line_at, LineRuns, forwards, backwards, line_paths, infill_paths}
use Rattle.plan_layer.proofs.MoveCount.{length-moves}

-- ---- walls
loop_way : (l : List Pt) → nat_le 3 (length l) ≡ true → 2 ≤ length (round l)
loop_way [] h = absurd (no h)
  where
    no : nat_le 3 0 ≡ true → ⊥
    no e = cc
loop_way (p ∷ ps) h = let l = length-append (p ∷ ps) (p ∷ []) in omega (arith, l)

rounds_ways : (c : ℕ) (outlines loops : List (List Pt)) → AreWalls c outlines loops
    → All (λ path. 2 ≤ length path) (map round loops)
rounds_ways c outlines loops w =
    let made = w.are_outlines.are_made.are_outlines in
    All-map (λ path. 2 ≤ length path) round loops
    (All-weaker (λ l. nat_le 3 (length l) ≡ true) (λ l. 2 ≤ length (round l)) loop_way loops
    (subst (λ (ls : List (List Pt)). All (λ l. nat_le 3 (length l) ≡ true) ls) (sym made.kept)
    (filter_passes (λ l. nat_le 3 (length l)) (map corners made.loops))))

walls_ways : (outlines : List (List Pt)) (width k : ℕ) (walls : List (List (List Pt)))
    → AreWallsFrom width k outlines walls → All (λ path. 2 ≤ length path) (wall_paths walls)
walls_ways outlines width k [] h = All-nil (λ path. 2 ≤ length path)
walls_ways outlines width k (loops ∷ walls) h =
    All-append (λ path. 2 ≤ length path) (map round loops) (wall_paths walls) (rounds_ways _ outlines loops h.0)
    (walls_ways outlines width (k + 1) walls h.1)

-- ---- infill
line_ways : (up : Bool) (line : Line) (rs : List Run) → All (λ path. 2 ≤ length path) (line_paths up line rs)
line_ways true line rs =
    All-map (λ path. 2 ≤ length path) (forwards line) rs
    (All-from_recursion (λ r. 2 ≤ length (forwards line r)) rs (each rs))
  where
    each : (rs : List Run) → AllByRecursion (λ r. 2 ≤ length (forwards line r)) rs
    each [] = tt
    each (r ∷ rs) = (omega arith, each rs)
line_ways false line rs =
    All-map (λ path. 2 ≤ length path) (backwards line) (reverse rs)
    (All-from_recursion (λ r. 2 ≤ length (backwards line r)) (reverse rs) (each (reverse rs)))
  where
    each : (rs : List Run) → AllByRecursion (λ r. 2 ≤ length (backwards line r)) rs
    each [] = tt
    each (r ∷ rs) = (omega arith, each rs)

infill_ways : (layer : ℕ) (up : Bool) (lines : List LineRuns)
    → All (λ path. 2 ≤ length path) (infill_paths layer up lines)
infill_ways layer up [] = All-nil (λ path. 2 ≤ length path)
infill_ways layer up (l ∷ ls) =
    All-append (λ path. 2 ≤ length path) (line_paths up (line_at layer l.at) l.runs) (infill_paths layer (not up) ls)
    (line_ways up (line_at layer l.at) l.runs) (infill_ways layer (not up) ls)

-- ---- of a plan
pub plan_ways : (outlines : List (List Pt)) (layer : ℕ) (s : Settings) (paths : List (List Pt)) (runs : ℕ)
    → IsPlan outlines layer s paths runs → All (λ path. 2 ≤ length path) paths
plan_ways outlines layer s paths runs p =
    let w = p.are_walls in
    subst (λ (ps : List (List Pt)). All (λ path. 2 ≤ length path) ps) (sym p.paths_are)
    (All-append (λ path. 2 ≤ length path) p.walls (infill_paths layer true p.lines)
    (subst (λ (ps : List (List Pt)). All (λ path. 2 ≤ length path) ps) (sym w.paths_are)
    (walls_ways outlines s.line_width 0 w.walls w.are_walls))
    (infill_ways layer true p.lines))

-- such paths have at most twice as many points as moves
few : (paths : List (List Pt)) → AllByRecursion (λ path. 2 ≤ length path) paths
    → sum_by length paths ≤ 2 * length (all_moves paths)
few [] h = omega arith
few (path ∷ paths) h =
    let first = h.0 in
    let rest = few paths h.1 in
    let s = sum_by-cons length path paths in
    let l = length-append (moves path) (all_moves paths) in
    let m = length-moves path in
    omega (arith, s, l, m, first, rest)

pub few_points : (paths : List (List Pt)) → All (λ path. 2 ≤ length path) paths
    → sum_by length paths ≤ 2 * length (all_moves paths)
few_points paths h = few paths (recursion_from_All (λ path. 2 ≤ length path) paths h)
