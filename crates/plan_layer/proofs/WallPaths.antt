-- The paths of walls, made one wall after another.
use Rattle.std.proofs.Common.{◌≡◌, ◌⊎◌, inl, inr, ◌≤◌, ◌<◌, ◌+◌, ℕ, List, [], ◌∷◌, ◌++◌, length, map, refl, ap, ◌∙◌}
use Rattle.std.proofs.Common.{sym, subst, arith, length-append}
use Rattle.std.proofs.lemmas.Grind.{flat_map-append}
use Rattle.std.proofs.lemmas.List.{append-nil}
use Rattle.scad_geom.specs.declared.point.Pt.{Pt}
use Rattle.slice_events.specs.Limits.{crossing_limit}
use Rattle.slice_events.specs.Levels.{crossings}
use Rattle.slice_border.specs.declared.fault.BoolFault.{BoolFault}
use Rattle.slice_border.specs.declared.fault.BoolFault.TheVariants.{Memory, Edges, Crossings}
use Rattle.plan_walls.specs.Walls.{wall_edges, AreWalls}
use Rattle.plan_walls.specs.Refusal.{wall_edge_limit, IsRefusal}
use Rattle.scad_words.specs.declared.settings.Settings.{Settings}
use Rattle.plan_layer.specs.Plan.{distance, AreWallsFrom, round, wall_paths, AreWallPaths}
use Rattle.plan_layer.specs.Refusal.{fault_of, IsWallAccepted, AreAccepted, IsWallsRefusal}

-- paths of the first n walls, which pass no limit
pub record Walled (outlines : List (List Pt)) (width n : ℕ) (paths : List (List Pt)) : Type 0 where
  pub walls : List (List (List Pt))
  pub count : length walls ≡ n
  pub are_walls : AreWallsFrom width 0 outlines walls
  pub paths_are : paths ≡ wall_paths walls
  pub accepted : AreAccepted outlines width n

pub walled_none : (outlines : List (List Pt)) (width : ℕ) → Walled outlines width 0 []
walled_none outlines width =
    record { walls = []; count = refl; are_walls = tt; paths_are = refl; accepted = λ k h. absurd (omega arith) }

walls_push : (outlines : List (List Pt)) (width k n : ℕ) (walls : List (List (List Pt))) (loops : List (List Pt))
    → n ≡ k + length walls
    → AreWallsFrom width k outlines walls → AreWalls (distance width n) outlines loops → AreWallsFrom width k outlines
    (walls ++ loops ∷ [])
walls_push outlines width k n [] loops e h w =
    (subst (λ (m : ℕ). AreWalls (distance width m) outlines loops) (omega (arith, e)) w, tt)
walls_push outlines width k n (first ∷ walls) loops e h w =
    (h.0, walls_push outlines width (k + 1) n walls loops (omega (arith, e)) h.1 w)

-- one wall more
pub accepted_more : (outlines : List (List Pt)) (width n : ℕ) → AreAccepted outlines width n
    → IsWallAccepted outlines (distance width n) → AreAccepted outlines width (n + 1)
accepted_more outlines width n all last k o = elim (below_or_same k n o) [
  | inl p ↦ all k p
  | inr e ↦ subst (λ (m : ℕ). IsWallAccepted outlines (distance width m)) (sym e) last
]
  where
    below_or_same : (k n : ℕ) → k < n + 1 → (k < n) ⊎ (k ≡ n)
    below_or_same k n o = grind arith

pub walled_more : (outlines : List (List Pt)) (width n : ℕ) (paths loops : List (List Pt))
    → Walled outlines width n paths → AreWalls (distance width n) outlines loops
    → length (wall_edges (distance width n) outlines) ≤ wall_edge_limit → crossings
    (wall_edges (distance width n) outlines) ≤ crossing_limit
    → Walled outlines width (n + 1) (paths ++ map round loops)
walled_more outlines width n paths loops h w few met = record {
  walls = h.walls ++ loops ∷ [];
  count = pushed h.walls h.count;
  are_walls = walls_push outlines width 0 n h.walls loops (let c = h.count in omega (arith, c)) h.are_walls w;
  paths_are = ap (λ (ps : List (List Pt)). ps ++ map round loops) h.paths_are
      ∙ ap (λ (ps : List (List Pt)). wall_paths h.walls ++ ps) (sym (append-nil (map round loops)))
      ∙ sym (flat_map-append (λ (l : List (List Pt)). map round l) h.walls (loops ∷ []));
  accepted = accepted_more outlines width n h.accepted (record { few_edges = few; few_crossings = met });
}
  where
    pushed : (ws : List (List (List Pt))) → length ws ≡ n → length (ws ++ loops ∷ []) ≡ n + 1
    pushed ws e = omega (arith, length-append ws (loops ∷ []), e)

pub all_walled : (outlines : List (List Pt)) (s : Settings) (paths : List (List Pt))
    → Walled outlines s.line_width s.walls paths → AreWallPaths outlines s paths
all_walled outlines s paths h =
    record { walls = h.walls; count = h.count; are_walls = h.are_walls; paths_are = h.paths_are }

-- a wall that is refused refuses the plan
pub wall_refused : (outlines : List (List Pt)) (s : Settings) (k : ℕ) (fault : BoolFault) → k < s.walls
    → AreAccepted outlines s.line_width k
    → IsRefusal (length (wall_edges (distance s.line_width k) outlines)) wall_edge_limit
    (crossings (wall_edges (distance s.line_width k) outlines)) fault
    → IsWallsRefusal outlines s (fault_of fault)
wall_refused outlines s k Memory there accepted h = tt
wall_refused outlines s k (Edges n) there accepted h =
    record { wall = k; there = there; accepted = accepted; refused = h }
wall_refused outlines s k (Crossings n) there accepted h =
    record { wall = k; there = there; accepted = accepted; refused = h }
