-- What holds of the paths along the runs of rows, to the right and to the left.
use Rattle.std.proofs.Common.{Bool, true, false, not, List, [], ◌∷◌, reverse, ℤ}
use Rattle.std.specs.Prelude.{All}
use Rattle.std.proofs.lemmas.List.Elements.{All-nil, All-head, All-tail, All-append, All-map, All-weaker}
use Rattle.std.proofs.lemmas.List.Sorted.{All-permutation, IsPermutation-reverse}
use Rattle.scad_geom.specs.declared.point.Pt.{Pt}
use Rattle.scad_geom.specs.declared.point.Edge.{Edge}
use Rattle.plan_infill.specs.declared.run.Run.{Run}
use Rattle.plan_layer.specs.Moves.{moves, all_moves}
use Rattle.plan_support.specs.Rows.{Row}
use Rattle.plan_support.specs.Supports.{rightwards, leftwards, row_paths, paths_of}

module _ (P : List Pt → Type 0) where
  -- it holds of both paths along a run at a height
  abbrev pub HoldsBothWays : ℤ → Run → Type 0
  HoldsBothWays y r = P (rightwards y r) × P (leftwards y r)

  row_holds : (right : Bool) (r : Row) → All (HoldsBothWays r.y) r.runs → All P (row_paths right r)
  row_holds true r h = All-map P (rightwards r.y) r.runs
      (All-weaker (HoldsBothWays r.y) (λ q. P (rightwards r.y q)) (λ q k. k.0) r.runs h)
  row_holds false r h = All-map P (leftwards r.y) (reverse r.runs)
      (All-permutation (λ q. P (leftwards r.y q)) r.runs (reverse r.runs) (IsPermutation-reverse r.runs)
      (All-weaker (HoldsBothWays r.y) (λ q. P (leftwards r.y q)) (λ q k. k.1) r.runs h))

  pub paths_hold : (right : Bool) (rows : List Row) → All (λ (r : Row). All (HoldsBothWays r.y) r.runs) rows
      → All P (paths_of right rows)
  paths_hold right [] h = All-nil P
  paths_hold right (r ∷ rs) h =
      All-append P (row_paths right r) (paths_of (not right) rs)
      (row_holds right r (All-head (λ (q : Row). All (HoldsBothWays q.y) q.runs) r rs h))
      (paths_hold (not right) rs (All-tail (λ (q : Row). All (HoldsBothWays q.y) q.runs) r rs h))

-- what holds of the moves along each path holds of all
pub moves_hold : (P : Edge → Type 0) (paths : List (List Pt)) → All (λ (path : List Pt). All P (moves path)) paths
    → All P (all_moves paths)
moves_hold P [] h = All-nil P
moves_hold P (path ∷ paths) h =
    All-append P (moves path) (all_moves paths) (All-head (λ (p : List Pt). All P (moves p)) path paths h)
    (moves_hold P paths (All-tail (λ (p : List Pt). All P (moves p)) path paths h))
