-- Each point of a plan's paths is an end of one of their moves.
use Rattle.std.proofs.Common.{ℕ, Bool, true, false, not, List, [], ◌∷◌, ◌++◌, map, reverse, ap, ◌∙◌, sym}
use Rattle.std.proofs.Common.{subst}
use Rattle.std.specs.Prelude.{All}
use Rattle.std.specs.List.{AllByRecursion}
use Rattle.std.proofs.lemmas.List.Elements.{All-nil, All-map, All-append, recursion_from_All}
use Rattle.scad_base.proofs.Lists.{AllByRecursion-append}
use Rattle.scad_geom.specs.declared.point.Pt.{Pt}
use Rattle.scad_geom.specs.Within.{IsWithin, IsEdgeWithin}
use Rattle.plan_infill.specs.declared.line.Line.{Line}
use Rattle.plan_infill.specs.declared.run.Run.{Run}
use Rattle.scad_words.specs.declared.settings.Settings.{Settings}
use Rattle.plan_layer.specs.Infill.{line_at, LineRuns, forwards, backwards, line_paths, infill_paths}
use Rattle.plan_layer.specs.Moves.{moves_from, moves, all_moves}
use Rattle.plan_layer.specs.Plan.{IsPlan, round, wall_paths}

-- ---- no path is a point alone
abbrev NoPoint : List Pt → Type 0
NoPoint [] = Unit {0}
NoPoint (p ∷ []) = ⊥
NoPoint (p ∷ q ∷ ps) = Unit {0}

round_no_point : (l : List Pt) → NoPoint (round l)
round_no_point [] = tt
round_no_point (p ∷ []) = tt
round_no_point (p ∷ q ∷ ps) = tt

walls_no_points : (walls : List (List (List Pt))) → All NoPoint (wall_paths walls)
walls_no_points [] = All-nil NoPoint
walls_no_points (loops ∷ walls) =
    All-append NoPoint (map round loops) (wall_paths walls)
    (All-map NoPoint round loops (λ k d there. round_no_point _)) (walls_no_points walls)

line_no_points : (up : Bool) (line : Line) (rs : List Run) → All NoPoint (line_paths up line rs)
line_no_points true line rs = All-map NoPoint (forwards line) rs (λ k d there. tt)
line_no_points false line rs = All-map NoPoint (backwards line) (reverse rs) (λ k d there. tt)

infill_no_points : (layer : ℕ) (up : Bool) (lines : List LineRuns) → All NoPoint (infill_paths layer up lines)
infill_no_points layer up [] = All-nil NoPoint
infill_no_points layer up (l ∷ ls) =
    All-append NoPoint (line_paths up (line_at layer l.at) l.runs) (infill_paths layer (not up) ls)
    (line_no_points up (line_at layer l.at) l.runs) (infill_no_points layer (not up) ls)

no_points : (outlines : List (List Pt)) (layer : ℕ) (s : Settings) (paths : List (List Pt)) (runs : ℕ)
    → IsPlan outlines layer s paths runs → All NoPoint paths
no_points outlines layer s paths runs p =
    let w = p.are_walls in
    subst (All NoPoint)
    (sym (p.paths_are ∙ ap (λ (ps : List (List Pt)). ps ++ infill_paths layer true p.lines) w.paths_are))
    (All-append NoPoint (wall_paths w.walls) (infill_paths layer true p.lines) (walls_no_points w.walls)
    (infill_no_points layer true p.lines))

-- ---- so its points lie where its moves do
module _ {X : Type 0} (P : X → Type 0) where
  pub all_front : (xs ys : List X) → AllByRecursion P (xs ++ ys) → AllByRecursion P xs
  all_front [] ys h = tt
  all_front (x ∷ xs) ys h = (h.0, all_front xs ys h.1)

  pub all_back : (xs ys : List X) → AllByRecursion P (xs ++ ys) → AllByRecursion P ys
  all_back [] ys h = h
  all_back (x ∷ xs) ys h = all_back xs ys h.1

module _ (limit : ℕ) where
  behind_within : (from : Pt) (ps : List Pt) → AllByRecursion (IsEdgeWithin limit) (moves_from from ps)
      → AllByRecursion (IsWithin limit) ps
  behind_within from [] h = tt
  behind_within from (to ∷ ps) h = (h.0.b, behind_within to ps h.1)

  path_within : (path : List Pt) → NoPoint path → AllByRecursion (IsEdgeWithin limit) (moves path)
      → AllByRecursion (IsWithin limit) path
  path_within [] n h = tt
  path_within (p ∷ []) n h = absurd n
  path_within (p ∷ q ∷ ps) n h = (h.0.a, behind_within p (q ∷ ps) h)

  paths_within : (paths : List (List Pt)) → AllByRecursion NoPoint paths
      → AllByRecursion (IsEdgeWithin limit) (all_moves paths)
      → AllByRecursion (λ path. AllByRecursion (IsWithin limit) path) paths
  paths_within [] n h = tt
  paths_within (path ∷ paths) n h = (
    path_within path n.0 (all_front (IsEdgeWithin limit) (moves path) (all_moves paths) h),
    paths_within paths n.1 (all_back (IsEdgeWithin limit) (moves path) (all_moves paths) h),
  )

-- and moves lie where the points of their paths do
module _ (limit : ℕ) where
  edges_from : (from : Pt) (ps : List Pt) → IsWithin limit from → AllByRecursion (IsWithin limit) ps
      → AllByRecursion (IsEdgeWithin limit) (moves_from from ps)
  edges_from from [] here h = tt
  edges_from from (to ∷ ps) here h = (record { a = here; b = h.0 }, edges_from to ps h.0 h.1)

  edges_of : (path : List Pt) → AllByRecursion (IsWithin limit) path → AllByRecursion (IsEdgeWithin limit) (moves path)
  edges_of [] h = tt
  edges_of (p ∷ ps) h = edges_from p ps h.0 h.1

  pub edges_within : (paths : List (List Pt)) → AllByRecursion (λ path. AllByRecursion (IsWithin limit) path) paths
      → AllByRecursion (IsEdgeWithin limit) (all_moves paths)
  edges_within [] h = tt
  edges_within (path ∷ paths) h =
      AllByRecursion-append (IsEdgeWithin limit) (moves path) (all_moves paths) (edges_of path h.0)
      (edges_within paths h.1)

pub plan_within : (limit : ℕ) (outlines : List (List Pt)) (layer : ℕ) (s : Settings) (paths : List (List Pt)) (runs : ℕ)
    → IsPlan outlines layer s paths runs → All (IsEdgeWithin limit) (all_moves paths)
    → AllByRecursion (λ path. AllByRecursion (IsWithin limit) path) paths
plan_within limit outlines layer s paths runs p h =
    paths_within limit paths (recursion_from_All NoPoint paths (no_points outlines layer s paths runs p))
    (recursion_from_All (IsEdgeWithin limit) (all_moves paths) h)
