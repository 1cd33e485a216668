-- What holds of each side of the walls, and of each run both ways, holds of each move of a plan.
use Rattle.std.proofs.Common.{◌≡◌, ◌+◌, ℕ, Bool, true, false, not, List, [], ◌∷◌, ◌++◌, map, reverse, refl, ap, ap₂}
use Rattle.std.proofs.Common.{◌∙◌, sym, subst, flat_map, ℤ}
use Rattle.std.specs.Prelude.{All}
use Rattle.std.specs.List.{AllByRecursion}
use Rattle.std.proofs.lemmas.Grind.{reverse_onto, flat_map-append}
use Rattle.std.proofs.lemmas.List.{map-append}
use Rattle.std.proofs.lemmas.List.Elements.{All-nil, All-cons, All-append, recursion_from_All}
use Rattle.scad_geom.specs.declared.point.Pt.{Pt}
use Rattle.scad_geom.specs.declared.point.Edge.{Edge}
use Rattle.scad_geom.specs.Loop.{path, sides}
use Rattle.plan_infill.specs.declared.run.Run.{Run}
use Rattle.plan_infill.specs.Runs.{point_on}
use Rattle.plan_walls.specs.Walls.{AreWalls}
use Rattle.scad_words.specs.declared.settings.Settings.{Settings}
use Rattle.plan_layer.specs.Moves.{moves_from, moves, all_moves}
use Rattle.plan_layer.specs.Plan.{distance, AreWallsFrom, round, wall_paths, IsPlan}
use Rattle.plan_layer.specs.Infill.{line_at, IsLayerRun, LineRuns, IsFilled, backwards, line_paths, infill_paths}

-- ---- the moves of a loop are its sides
pub moves_back : (from : Pt) (ps : List Pt) (last : Pt) → moves_from from (ps ++ last ∷ []) ≡ path from ps last
moves_back from [] last = refl
moves_back from (p ∷ ps) last = ap (λ (es : List Edge). record { a = from; b = p } ∷ es) (moves_back p ps last)

pub round_moves : (l : List Pt) → moves (round l) ≡ sides l
round_moves [] = refl
round_moves (p ∷ ps) = moves_back p ps p

rounds_moves : (loops : List (List Pt)) → all_moves (map round loops) ≡ flat_map sides loops
rounds_moves [] = refl
rounds_moves (l ∷ ls) = ap₂ (λ (x y : List Edge). x ++ y) (round_moves l) (rounds_moves ls)

-- the moves along a run of the line at a coordinate, the one way and the other
abbrev pub forwards_move : ℕ → ℤ → Run → Edge
forwards_move layer z r = record { a = point_on (line_at layer z) r.from; b = point_on (line_at layer z) r.to }

abbrev pub backwards_move : ℕ → ℤ → Run → Edge
backwards_move layer z r = record { a = point_on (line_at layer z) r.to; b = point_on (line_at layer z) r.from }

-- what is known of walls and of runs
pub record HoldsOfParts (P : Edge → Type 0) (outlines : List (List Pt)) (layer : ℕ) (s : Settings) : Type 0 where
  pub walls : (k : ℕ) (loops : List (List Pt)) → AreWalls (distance s.line_width k) outlines loops
      → All P (flat_map sides loops)
  pub there : (z : ℤ) (r : Run) → IsLayerRun outlines layer s z r → P (forwards_move layer z r)
  pub back : (z : ℤ) (r : Run) → IsLayerRun outlines layer s z r → P (backwards_move layer z r)

module _ (P : Edge → Type 0) (outlines : List (List Pt)) (layer : ℕ) (s : Settings)
    (h : HoldsOfParts P outlines layer s) where
  walls_hold : (k : ℕ) (walls : List (List (List Pt))) → AreWallsFrom s.line_width k outlines walls
      → All P (all_moves (wall_paths walls))
  walls_hold k [] are = All-nil P
  walls_hold k (loops ∷ walls) are =
      subst (λ (es : List Edge). All P es)
      (sym (flat_map-append moves (map round loops) (wall_paths walls)
      ∙ ap (λ (es : List Edge). es ++ all_moves (wall_paths walls)) (rounds_moves loops)))
      (All-append P (flat_map sides loops) (all_moves (wall_paths walls)) (h.walls k loops are.0)
      (walls_hold (k + 1) walls are.1))

  line_holds : (up : Bool) (z : ℤ) (rs : List Run) → AllByRecursion (IsLayerRun outlines layer s z) rs
      → All P (all_moves (line_paths up (line_at layer z) rs))
  line_holds true z [] are = All-nil P
  line_holds true z (r ∷ rs) are =
      All-cons P (forwards_move layer z r) (all_moves (line_paths true (line_at layer z) rs)) (h.there z r are.0)
      (line_holds true z rs are.1)
  line_holds false z [] are = All-nil P
  line_holds false z (r ∷ rs) are =
      subst (λ (es : List Edge). All P es)
      (sym (ap (λ (xs : List Run). all_moves (map (backwards (line_at layer z)) xs)) (reverse_onto rs r [])
      ∙ ap all_moves (map-append (backwards (line_at layer z)) (reverse rs) (r ∷ []))
      ∙ flat_map-append moves (map (backwards (line_at layer z)) (reverse rs)) (backwards (line_at layer z) r ∷ [])))
      (All-append P (all_moves (line_paths false (line_at layer z) rs)) (all_moves (backwards (line_at layer z) r ∷ []))
      (line_holds false z rs are.1) (All-cons P (backwards_move layer z r) [] (h.back z r are.0) (All-nil P)))

  infill_holds : (up : Bool) (lines : List LineRuns) → AllByRecursion (IsFilled outlines layer s) lines
      → All P (all_moves (infill_paths layer up lines))
  infill_holds up [] are = All-nil P
  infill_holds up (l ∷ ls) are =
      subst (λ (es : List Edge). All P es)
      (sym (flat_map-append moves (line_paths up (line_at layer l.at) l.runs) (infill_paths layer (not up) ls)))
      (All-append P (all_moves (line_paths up (line_at layer l.at) l.runs)) (all_moves (infill_paths layer (not up) ls))
      (line_holds up l.at l.runs (recursion_from_All (IsLayerRun outlines layer s l.at) l.runs are.0.runs.each))
      (infill_holds (not up) ls are.1))

  pub plan_holds : (paths : List (List Pt)) (runs : ℕ) → IsPlan outlines layer s paths runs
      → All P (all_moves paths)
  plan_holds paths runs p =
      let w = p.are_walls in
      subst (λ (ps : List (List Pt)). All P (all_moves ps))
      (sym (p.paths_are ∙ ap (λ (ps : List (List Pt)). ps ++ infill_paths layer true p.lines) w.paths_are))
      (subst (λ (es : List Edge). All P es)
      (sym (flat_map-append moves (wall_paths w.walls) (infill_paths layer true p.lines)))
      (All-append P (all_moves (wall_paths w.walls)) (all_moves (infill_paths layer true p.lines))
      (walls_hold 0 w.walls w.are_walls)
      (infill_holds true p.lines (recursion_from_All (IsFilled outlines layer s) p.lines p.are_filled.each))))
