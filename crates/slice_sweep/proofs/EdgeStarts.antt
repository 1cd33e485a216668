-- Edges that start at a height, and those that start below it.
use Rattle.std.proofs.Common.{◌≡◌, ℕ, ◌<◌, ◌≤◌, ◌⊎◌, inl, inr, Bool, true, false, not, List, [], ◌∷◌, ◌++◌, length, get_or, take, drop, refl, sym, ap, ap₂, ◌∙◌, subst, arith, true≢false, All}
use lib.IntN.{ℤ, ◌*ℤ◌}
use Rattle.std.specs.Prelude.{int_le}
use Rattle.std.specs.Cmp.{signed_Decides}
use Rattle.std.specs.List.{AllByRecursion}
use Rattle.std.proofs.lemmas.Int.{ints}
use Rattle.std.proofs.lemmas.List.{take-append-drop}
use Rattle.std.proofs.lemmas.List.Elements.{filter-append, All-from_recursion, recursion_from_All}
use Rattle.scad_base.proofs.Lists.{AllByRecursion-append}
use Rattle.scad_geom.specs.declared.level.Level.{Level}
use Rattle.scad_geom.specs.declared.level.LeafEdge.{LeafEdge}
use Rattle.scad_geom.specs.Line.{low}
use Rattle.scad_geom.specs.Level.{level_of, IsAtMost}
use Rattle.scad_geom.specs.Heights.{heights, AreNeighbours}
use Rattle.scad_geom.proofs.Heights.{at_most_then_lower}
use Rattle.scad_geom.proofs.Order.{front, back, all_ends}
use Rattle.slice_bundles.specs.declared.start.Start.{Start}
use Rattle.slice_bundles.specs.Bundles.{no_edge, edge_at, IsBundle}
use Rattle.slice_bundles.specs.Starts.{AreStarts, AreRising, IsStartOf, numbers_of, is_begun, begun_at, pending_at}
use Rattle.slice_bundles.proofs.Beginning.{of_lower, begun_too, pending_too, all_begun, all_pending}
use Rattle.slice_bundles.proofs.Live.{reaches_is}
use Rattle.slice_sweep.specs.declared.strand.Strand.{Strand}
use Rattle.slice_sweep.specs.Strands.{bundles_of, numbers_in, IsReaching, IsHeld, weakened, fresh}
use Rattle.slice_sweep.specs.Changes.{has_started}
use Rattle.slice_sweep.specs.Places.{came_from_below, StartsKeyless, StartsAt}
use Rattle.slice_sweep.specs.Front.{StartFrom, StartsBelow}
use Rattle.slice_sweep.proofs.Lists.{weaker}
use Rattle.slice_sweep.proofs.Placing.{bundles_append}
use Rattle.slice_sweep.proofs.Starting.{put_between}
use Rattle.slice_sweep.proofs.Weakening.{bundles_weakened, all_weakened}

module _ (es : List LeafEdge) (l : Level) where
  came_append : (xs ys : List Strand) → came_from_below es l (bundles_of (xs ++ ys))
      ≡ came_from_below es l (bundles_of xs) ++ came_from_below es l (bundles_of ys)
  came_append xs ys = ap (came_from_below es l) (bundles_append xs ys)
      ∙ filter-append (λ b. not (has_started es l b)) (bundles_of xs) (bundles_of ys)

  new_hidden : (k : ℕ) → StartsAt es l k → came_from_below es l ((k ∷ []) ∷ []) ≡ []
  new_hidden k s =
      let t : has_started es l (k ∷ []) ≡ true = (signed_Decides ((low (edge_at es k)).y *ℤ l.d) l.n).1 s in
      rw t refl

  module _ (L X W new : List Strand) (i k : ℕ) (x : X ≡ L) (o : i ≤ length X)
      (we : W ≡ weakened (take i L) ++ drop i L) (ne : new ≡ take i W ++ (fresh ((k ∷ []) ∷ []) ++ drop i W)) where
    new_is : new ≡ weakened (take i L) ++ (fresh ((k ∷ []) ∷ []) ++ drop i L)
    new_is =
        let self : i ≤ i = omega arith in
        let here : i ≤ length L = subst (λ (xs : List Strand). i ≤ length xs) x o in
        ne ∙ put_between L i i W (fresh ((k ∷ []) ∷ [])) self here we

    -- an edge that starts at the height comes from nowhere
    pub begun_below : StartsAt es l k
        → came_from_below es l (bundles_of new) ≡ came_from_below es l (bundles_of L)
    begun_below s =
        ap (λ (xs : List Strand). came_from_below es l (bundles_of xs)) new_is
        ∙ came_append (weakened (take i L)) (fresh ((k ∷ []) ∷ []) ++ drop i L)
        ∙ ap₂ (λ (bs cs : List (List ℕ)). bs ++ cs)
        (ap (came_from_below es l) (bundles_weakened (take i L)))
        (came_append (fresh ((k ∷ []) ∷ [])) (drop i L)
        ∙ ap (λ (bs : List (List ℕ)). bs ++ came_from_below es l (bundles_of (drop i L))) (new_hidden k s))
        ∙ sym (came_append (take i L) (drop i L))
        ∙ ap (λ (xs : List Strand). came_from_below es l (bundles_of xs)) (take-append-drop i L)

    pub begun_keyless : AllByRecursion (StartsKeyless es l) L → AllByRecursion (StartsKeyless es l) new
    begun_keyless h =
        let whole = subst (AllByRecursion (StartsKeyless es l)) (sym (take-append-drop i L)) h in
        subst (AllByRecursion (StartsKeyless es l)) (sym new_is)
        (AllByRecursion-append (StartsKeyless es l) (weakened (take i L)) (fresh ((k ∷ []) ∷ []) ++ drop i L)
        (all_weakened (StartsKeyless es l) (λ s k _. refl) (take i L)
        (front (StartsKeyless es l) (take i L) (drop i L) whole))
        (λ _. refl, back (StartsKeyless es l) (take i L) (drop i L) whole))

  -- those that start below it have come from below
  not_started : (b : List ℕ) → IsBundle es l b → AllByRecursion (StartsBelow es l) b → has_started es l b ≡ false
  not_started [] h s = absurd h
  not_started (k ∷ ks) h s = by_test (has_started es l (k ∷ ks)) refl
    where
      by_test : (t : Bool) → has_started es l (k ∷ ks) ≡ t → t ≡ false
      by_test false e = refl
      by_test true e =
          let same = (signed_Decides ((low (edge_at es k)).y *ℤ l.d) l.n).0 e in
          let less = s.0 in
          absurd (omega (arith, ints))

  pub all_came_from_below : (L : List Strand) → AllByRecursion (IsHeld es l) L
      → AllByRecursion (StartsBelow es l) (numbers_in L)
      → (came_from_below es l (bundles_of L) ≡ bundles_of L) × AllByRecursion (StartsKeyless es l) L
  all_came_from_below [] h s = (refl, tt)
  all_came_from_below (t ∷ L) h s =
      let rest = all_came_from_below L h.1 (back (StartsBelow es l) t.bundle (numbers_in L) s) in
      let here = not_started t.bundle h.0.bundle (front (StartsBelow es l) t.bundle (numbers_in L) s) in (
        rw here (ap (λ (bs : List (List ℕ)). t.bundle ∷ bs) rest.0),
        (λ e. absurd (true≢false (sym e ∙ here)), rest.1),
      )

  -- ---- the edges that begin, and those that are pending
  pub begun_at_height : (P : List Start) → AllByRecursion (IsStartOf es) P
      → AllByRecursion (λ s. IsAtMost l (level_of s.y)) P
      → All (StartsAt es l) (numbers_of (begun_at l P))
  begun_at_height P s m = All-from_recursion (StartsAt es l) (numbers_of (begun_at l P))
      (each (begun_at l P) (begun_too l (IsStartOf es) P s) (begun_too l (λ s. IsAtMost l (level_of s.y)) P m)
      (all_begun l P))
    where
      each : (ss : List Start) → AllByRecursion (IsStartOf es) ss
          → AllByRecursion (λ s. IsAtMost l (level_of s.y)) ss → AllByRecursion (λ s. is_begun l s ≡ true) ss
          → AllByRecursion (StartsAt es l) (numbers_of ss)
      each [] a b c = tt
      each (s ∷ ss) a b c =
          let y = a.0.y in
          let most = b.0 in
          let begun = c.0 in
          let at : s.y *ℤ l.d ≡ l.n = omega (arith, ints) in (
            subst (λ (z : ℤ). z *ℤ l.d ≡ l.n) y at,
            each ss a.1 b.1 c.1,
          )

module _ (es : List LeafEdge) (l u : Level) (n : AreNeighbours es l u) where
  -- a height of an end that isn't at or below the lower one isn't below the upper one
  above : (y : ℤ) → (IsAtMost (level_of y) l ⊎ IsAtMost u (level_of y)) → int_le (y *ℤ l.d) l.n ≡ false
      → IsAtMost u (level_of y)
  above y (inl a) e = absurd (omega (arith, ints))
  above y (inr a) e = a

  ends_between : (k : ℕ) → k < length es
      → IsAtMost (level_of (low (edge_at es k)).y) l ⊎ IsAtMost u (level_of (low (edge_at es k)).y)
  ends_between k o =
      let P : Level → Type 0 = λ g. IsAtMost g l ⊎ IsAtMost u g in
      let both = all_ends P es k no_edge (recursion_from_All P (heights es) n.between) o in
      of_lower P (edge_at es k) both.0 both.1

  pub pending_above : (P : List Start) → AllByRecursion (IsStartOf es) P → AreRising P
      → AllByRecursion (λ s. IsAtMost u (level_of s.y)) (pending_at l P)
  pending_above P s r = each (pending_at l P) (pending_too l (IsStartOf es) P s) (all_pending l n.lower_divisor P r)
    where
      each : (ss : List Start) → AllByRecursion (IsStartOf es) ss → AllByRecursion (λ s. is_begun l s ≡ false) ss
          → AllByRecursion (λ s. IsAtMost u (level_of s.y)) ss
      each [] a b = tt
      each (s ∷ ss) a b =
          let P : ℤ → Type 0 = λ y. IsAtMost (level_of y) l ⊎ IsAtMost u (level_of y) in (
            above s.y (subst P (sym a.0.y) (ends_between s.number a.0.there)) b.0,
            each ss a.1 b.1,
          )

  -- an edge that reaches both heights starts below the upper one
  pub live_below : (L : List Strand)
      → AllByRecursion (λ (s : Strand). AllByRecursion (IsReaching es l u) s.bundle) L
      → AllByRecursion (StartsBelow es u) (numbers_in L)
  live_below [] h = tt
  live_below (t ∷ L) h =
      AllByRecursion-append (StartsBelow es u) t.bundle (numbers_in L)
      (weaker (IsReaching es l u) (StartsBelow es u)
      (λ k r. at_most_then_lower (level_of (low (edge_at es k)).y) l u (omega (arith, ints)) n.lower_divisor
      n.upper_divisor (reaches_is (edge_at es k) l u r.reaches).from n.in_order) t.bundle h.0)
      (live_below L h.1)

-- none of the edges has begun
pub starts_from : (es : List LeafEdge) (at : Level) → StartFrom at es → (ss : List Start) → AreStarts es ss
    → AllByRecursion (λ (s : Start). IsAtMost at (level_of s.y)) ss
starts_from es at h ss a = recursion_from_All (λ (s : Start). IsAtMost at (level_of s.y)) ss
    (λ k d o. let r = a k d o in
    subst (λ (y : ℤ). IsAtMost at (level_of y)) (sym r.y) (h (get_or ss k d).number no_edge r.there))
