-- Support runs stand apart from their layer's outlines, have lengths, and lie no farther out than what they stand below.
use Rattle.std.proofs.Common.{◌≡◌, ℕ, ◌<◌, true, List, [], ◌∷◌, ap, sym, subst, arith, ℤ}
use lib.Signed.{◌≤ℤ◌}
use Rattle.std.specs.Prelude.{All}
use Rattle.std.proofs.lemmas.Int.{ints}
use Rattle.std.proofs.lemmas.List.Elements.{All-nil, All-cons, All-weaker}
use Rattle.scad_geom.specs.declared.point.Pt.{Pt}
use Rattle.scad_geom.specs.declared.point.Edge.{Edge}
use Rattle.scad_geom.specs.Point.{whole}
use Rattle.scad_geom.specs.Within.{IsWithin}
use Rattle.slice_loops.specs.Lengths.{HasLength}
use Rattle.winding_laws.proofs.Parts.{on_turned}
use Rattle.plan_infill.specs.declared.run.Run.{Run}
use Rattle.plan_layer.specs.Moves.{moves, all_moves}
use Rattle.plan_sides.proofs.Within.{outlines_within}
use Rattle.plan_support.specs.Rows.{Row}
use Rattle.plan_support.specs.Spans.{point_at}
use Rattle.plan_support.specs.Stretches.{IsStretch}
use Rattle.plan_support.specs.Supports.{IsFree, rightwards, leftwards}
use Rattle.support_laws.specs.Supports.{NeedsSupport, AreSupportsBelow}
use Rattle.support_laws.specs.Apart.{KeepsApart, SupportsStandApart, SupportsHaveLengths, SupportsLieWithin}
use Rattle.support_laws.proofs.Apart.{stands_apart}
use Rattle.support_laws.proofs.Between.{HasPlace, has_place, whole_place}
use Rattle.support_laws.proofs.Extents.{AreWithin, below_within}
use Rattle.support_laws.proofs.Paths.{HoldsBothWays, paths_hold, moves_hold}
use Rattle.support_laws.proofs.Rows.{each_stretch}

module _ (above : List (List (List Pt))) (outlines : List (List Pt)) (spacing gap least : ℕ) where
  -- a support run of a height
  abbrev IsSupportRun : ℤ → Run → Type 0
  IsSupportRun y r = IsStretch (λ x. NeedsSupport above outlines spacing gap x y) least r

  in_order : (y : ℤ) (r : Run) → IsSupportRun y r → r.from ≤ℤ r.to
  in_order y r s = let l = s.long in omega (arith, ints, l)

  -- what holds of both paths along each support run holds of all paths
  all_paths : (P : List Pt → Type 0) → ((y : ℤ) (r : Run) → IsSupportRun y r → P (rightwards y r))
      → ((y : ℤ) (r : Run) → IsSupportRun y r → P (leftwards y r)) → (paths : List (List Pt))
      → AreSupportsBelow above outlines spacing gap least paths → All P paths
  all_paths P there back paths are =
      subst (All P) (sym are.paths_are)
      (paths_hold P true are.rows
      (All-weaker (λ (row : Row). All (IsSupportRun row.y) row.runs)
      (λ (row : Row). All (HoldsBothWays P row.y) row.runs)
      (λ row h. All-weaker (IsSupportRun row.y) (HoldsBothWays P row.y)
      (λ r s. (there row.y r s, back row.y r s)) row.runs h) are.rows
      (each_stretch (NeedsSupport above outlines spacing gap) least are.rows are.are_rows)))

  -- and what holds of both moves of all moves
  all_runs : (P : Edge → Type 0)
      → ((y : ℤ) (r : Run) → IsSupportRun y r → P (record { a = point_at r.from y; b = point_at r.to y }))
      → ((y : ℤ) (r : Run) → IsSupportRun y r → P (record { a = point_at r.to y; b = point_at r.from y }))
      → (paths : List (List Pt)) → AreSupportsBelow above outlines spacing gap least paths → All P (all_moves paths)
  all_runs P there back paths are =
      moves_hold P paths
      (all_paths (λ path. All P (moves path))
      (λ y r s. All-cons P (record { a = point_at r.from y; b = point_at r.to y }) [] (there y r s) (All-nil P))
      (λ y r s. All-cons P (record { a = point_at r.to y; b = point_at r.from y }) [] (back y r s) (All-nil P))
      paths are)

  -- ---- they stand apart
  module _ (y : ℤ) (r : Run) (s : IsSupportRun y r) where
    free_at : (z : ℤ) → r.from ≤ℤ z → z ≤ℤ r.to → IsFree outlines gap (point_at z y)
    free_at z a b = (s.holds z a b).free

    keeps_there : KeepsApart outlines gap (record { a = point_at r.from y; b = point_at r.to y })
    keeps_there = record {
      free = λ q on.
          let h : HasPlace r.from r.to y (whole q) =
          has_place r.from r.to y (whole q) (in_order y r s) (omega (arith, ints)) on in
          subst (IsFree outlines gap) (whole_place r.from r.to y q h) (free_at h.place h.from_first h.to_last);
      apart = λ some q hd on.
          let h : HasPlace r.from r.to y q = has_place r.from r.to y q (in_order y r s) hd on in
          stands_apart outlines gap h.place y q hd h.floor h.level some (free_at h.place h.from_first h.to_last);
    }

    keeps_back : KeepsApart outlines gap (record { a = point_at r.to y; b = point_at r.from y })
    keeps_back =
        let there = keeps_there in
        record {
          free = λ q on.
              there.free q (on_turned (whole (point_at r.to y)) (whole (point_at r.from y)) (whole q) on);
          apart = λ some q hd on.
              there.apart some q hd (on_turned (whole (point_at r.to y)) (whole (point_at r.from y)) q on);
        }

  -- ---- they have lengths
  ends_differ : (y : ℤ) (r : Run) → 0 < least → IsSupportRun y r → point_at r.from y ≡ point_at r.to y → ⊥
  ends_differ y r some s same =
      let l = s.long in
      let e : r.from ≡ r.to = ap (λ (p : Pt). p.x) same in
      omega (arith, ints, some, l, e)

  -- ---- they lie within
  module _ (limit : ℕ) (within : All (AreWithin limit) above) (y : ℤ) (r : Run) (s : IsSupportRun y r) where
    from_within : IsWithin limit (point_at r.from y)
    from_within =
        let o = in_order y r s in
        below_within limit above within r.from y (s.holds r.from (omega (arith, ints)) o).overhung.below

    to_within : IsWithin limit (point_at r.to y)
    to_within =
        let o = in_order y r s in
        below_within limit above within r.to y (s.holds r.to o (omega (arith, ints))).overhung.below

pub supports_stand_apart : SupportsStandApart
supports_stand_apart above outlines spacing gap least paths are =
    all_runs above outlines spacing gap least (KeepsApart outlines gap)
    (keeps_there above outlines spacing gap least) (keeps_back above outlines spacing gap least) paths are

pub supports_have_lengths : SupportsHaveLengths
supports_have_lengths above outlines spacing gap least paths some are =
    all_runs above outlines spacing gap least HasLength
    (λ y r s. ends_differ above outlines spacing gap least y r some s)
    (λ y r s same. ends_differ above outlines spacing gap least y r some s (sym same)) paths are

pub supports_lie_within : SupportsLieWithin
supports_lie_within above outlines spacing gap least limit paths within are =
    let sides_within : All (AreWithin limit) above =
    All-weaker (λ (o : List (List Pt)). All (λ l. All (IsWithin limit) l) o) (AreWithin limit)
    (λ o k. outlines_within limit o k) above within in
    all_paths above outlines spacing gap least (λ path. All (IsWithin limit) path)
    (λ y r s. pair limit (point_at r.from y) (point_at r.to y)
    (from_within above outlines spacing gap least limit sides_within y r s)
    (to_within above outlines spacing gap least limit sides_within y r s))
    (λ y r s. pair limit (point_at r.to y) (point_at r.from y)
    (to_within above outlines spacing gap least limit sides_within y r s)
    (from_within above outlines spacing gap least limit sides_within y r s))
    paths are
  where
    pair : (limit : ℕ) (p q : Pt) → IsWithin limit p → IsWithin limit q → All (IsWithin limit) (p ∷ q ∷ [])
    pair limit p q a b =
        All-cons (IsWithin limit) p (q ∷ []) a (All-cons (IsWithin limit) q [] b (All-nil (IsWithin limit)))
