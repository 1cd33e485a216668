-- What the comparison of all stays needs and leaves.
use Rattle.std.proofs.Common.{◌≡◌, ℕ, zero, suc, ◌<◌, ◌-◌, ◌^◌, List, [], ◌∷◌, length, drop, All, refl, sym, ap, arith, subst}
use lib.IntN.{ℤ}
use Rattle.std.specs.List.{AllByRecursion}
use Rattle.std.specs.List.Sorted.{IsPermutation}
use Rattle.std.proofs.lemmas.List.Elements.{recursion_from_All, All-from_recursion}
use Rattle.std.proofs.lemmas.List.Sorted.{All-permutation}
use Rattle.scad_base.proofs.Lists.{AllByRecursion-append}
use Rattle.scad_geom.specs.Limits.{coordinate_limit}
use Rattle.scad_geom.specs.Within.{IsEdgeWithin}
use Rattle.scad_geom.specs.declared.point.Edge.{Edge}
use Rattle.scad_geom.specs.declared.level.LeafEdge.{LeafEdge}
use Rattle.scad_geom.specs.Line.{low, high}
use Rattle.slice_events.specs.declared.line.Line.{Line}
use Rattle.slice_events.specs.declared.stay.Stay.{Stay}
use Rattle.slice_events.specs.declared.comparison.Found.{Found}
use Rattle.slice_events.specs.Boxes.{left_end}
use Rattle.slice_events.specs.Lines.{edges_in, edges_of_leaves}
use Rattle.slice_events.specs.Stays.{bucket_of, later_stays, stays_of, all_stays, edge_at, IsStayOf}
use Rattle.slice_events.specs.Yields.{yield_among, HasRoom, HasYielded}
use Rattle.slice_events.specs.AllPairs.{IsEmpty, IsFoundOf}
use Rattle.slice_events.proofs.AllPairs.{has_room, all_found}

-- ---- each stay names its edge
there : (es fs : List Edge) (e : Edge) (i : ℕ) → drop i es ≡ e ∷ fs
    → (i < length es) × ((edge_at es i ≡ e) × (drop (suc i) es ≡ fs))
there [] fs e zero h = absurd (cc h)
there [] fs e (suc i) h = absurd (cc h)
there (x ∷ es) fs e zero h = (omega arith, (cc h, cc h))
there (x ∷ es) fs e (suc i) h = let t = there es fs e i h in let l = t.0 in (omega arith, t.1)

module _ (es : List Edge) (tall : ℕ) where
  later_right : (i b k : ℕ) (left : ℤ) → i < length es → left ≡ left_end (edge_at es i)
      → AllByRecursion (IsStayOf es) (later_stays i left b k)
  later_right i b zero left l h = tt
  later_right i b (suc k) left l h = ((l, h), later_right i (suc b) k left l h)

  all_right : (fs : List Edge) (i : ℕ) → drop i es ≡ fs → AllByRecursion (IsStayOf es) (all_stays tall i fs)
  all_right [] i h = tt
  all_right (e ∷ fs) i h =
      let t = there es fs e i h in
      let left : left_end e ≡ left_end (edge_at es i) = ap left_end (sym t.1.0) in
      AllByRecursion-append (IsStayOf es) (stays_of tall i e) (all_stays tall (suc i) fs) (
        (t.0, left),
        later_right i (suc (bucket_of tall (low e).y))
            (bucket_of tall (high e).y - bucket_of tall (low e).y) (left_end e) t.0 left,
      )
      (all_right fs (suc i) t.1.1)

pub stays_right : (es : List Edge) (tall : ℕ) (stays : List Stay) → IsPermutation (all_stays tall 0 es) stays
    → All (IsStayOf es) stays
stays_right es tall stays p = All-permutation (IsStayOf es) (all_stays tall 0 es) stays p
    (All-from_recursion (IsStayOf es) (all_stays tall 0 es) (all_right es tall es 0 refl))

-- ---- of leaves' edges
edges_within : (es : List LeafEdge) → AllByRecursion (λ e. IsEdgeWithin coordinate_limit e.edge) es
    → AllByRecursion (IsEdgeWithin coordinate_limit) (edges_of_leaves es)
edges_within [] h = tt
edges_within (e ∷ es) h = (h.0, edges_within es h.1)

edges_few : (es : List LeafEdge) → length (edges_of_leaves es) ≡ length es
edges_few [] = refl
edges_few (e ∷ es) = ap suc (edges_few es)

module _ (edges : List LeafEdge) (lines : List Line) (tall : ℕ) (stays : List Stay) (before : Found) (within : All (λ e. IsEdgeWithin coordinate_limit e.edge) edges) (few : length edges < 2 ^ 32)
    (positive : 0 < tall) (same : edges_in lines ≡ edges_of_leaves edges) (arranged : IsPermutation (all_stays tall 0 (edges_in lines)) stays) (empty : IsEmpty before) where
  inside : AllByRecursion (IsEdgeWithin coordinate_limit) (edges_of_leaves edges)
  inside = edges_within edges (recursion_from_All (λ (e : LeafEdge). IsEdgeWithin coordinate_limit e.edge) edges
      within)

  placed : IsPermutation (all_stays tall 0 (edges_of_leaves edges)) stays
  placed = subst (λ (es : List Edge). IsPermutation (all_stays tall 0 es) stays) same arranged

  pub room_for_all : HasRoom before (yield_among (edges_in lines) stays)
  room_for_all =
      subst (λ (es : List Edge). HasRoom before (yield_among es stays)) (sym same)
      (has_room tall positive edges inside stays placed before empty
      (subst (λ (n : ℕ). n < 2 ^ 32) (sym (edges_few edges)) few))

  pub found_all : (after : Found) → HasYielded before after (yield_among (edges_in lines) stays)
      → IsFoundOf edges after
  found_all after y = all_found tall positive edges inside stays placed before after empty
      (subst (λ (es : List Edge). HasYielded before after (yield_among es stays)) same y)
