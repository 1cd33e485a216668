-- The edges of strands meet a height at the places of the strands.
use Rattle.std.proofs.Common.{◌≡◌, ℕ, zero, suc, ◌+◌, ◌<◌, inl, inr, Bool, true, false, List, [], ◌∷◌, length, sym, ap, ◌∙◌, subst, arith}
use lib.IntN.{ℤ, pos, ◌*ℤ◌}
use lib.Signed.{◌<ℤ◌}
use Rattle.std.specs.Prelude.{if◌then◌else◌}
use Rattle.std.specs.List.{AllByRecursion, concat}
use Rattle.std.proofs.lemmas.List.Elements.{All-from_recursion, recursion_from_All}
use Rattle.std.proofs.lemmas.List.Sorted.{All-permutation, IsPermutation-sym}
use Rattle.scad_base.proofs.Lists.{AllByRecursion-append}
use Rattle.scad_geom.specs.declared.point.Edge.{Edge}
use Rattle.scad_geom.specs.declared.level.Level.{Level}
use Rattle.scad_geom.specs.declared.level.LeafEdge.{LeafEdge}
use Rattle.scad_geom.specs.Line.{rise, x_at}
use Rattle.scad_geom.specs.EdgeOrder.{AreAligned}
use Rattle.scad_geom.proofs.Heights.{same_chain}
use Rattle.scad_geom.proofs.Order.{front, back, aligned_all}
use Rattle.slice_bundles.specs.Bundles.{edge_at, reaches, reaching, IsBundle, AreRanked, AreBundles}
use Rattle.slice_bundles.proofs.Live.{IsLive, live_bundles}
use Rattle.slice_pieces.specs.declared.piece.Spot.{Spot}
use Rattle.slice_border.specs.Pieces.{spot_on, across, IsSameAcross, HasSpot}
use Rattle.slice_border.proofs.Middle.{size_of}
use Rattle.slice_border.proofs.Winding.{IsSpotAt}
use Rattle.sweep_laws.specs.Fronts.{Strand, bundles_of}
use Rattle.sweep_laws.specs.Crossing.{Place, spots_of, MeetsAt}
use Rattle.sweep_laws.proofs.Spots.{spot_at}
use Rattle.sweep_laws.proofs.LevelPieces.{gathered}

-- ---- the edges of a strand meet the height at its place
aligned_spots : (n m : Level) → pos 0 <ℤ n.d → (e f : Edge) → pos 0 <ℤ rise e → pos 0 <ℤ rise f → AreAligned n e f
    → IsSameAcross (spot_on e m) (spot_on f m)
aligned_spots n m dn e f re rf a =
    ap (λ (z : ℤ). x_at e m.n m.d *ℤ z) (size_of (rise f) rf)
    ∙ aligned_all n dn e f a m.n m.d
    ∙ ap (λ (z : ℤ). x_at f m.n m.d *ℤ z) (sym (size_of (rise e) re))

abbrev Rises : List LeafEdge → ℕ → Type 0
Rises es k = pos 0 <ℤ rise (edge_at es k)

module _ (es : List LeafEdge) (n m : Level) (dn : pos 0 <ℤ n.d) where
  bundle_spots : (p : Spot) → IsSpotAt m p → (b : List ℕ) → IsBundle es n b → AllByRecursion (Rises es) b
      → MeetsAt es m p b
      → AllByRecursion (λ j. IsSameAcross p (spot_on (edge_at es j) m)) b
  bundle_spots p hp [] i r h = tt
  bundle_spots p hp (k ∷ ks) i r h = (sym h, others ks i.1 r.1)
    where
      others : (js : List ℕ) → AllByRecursion (λ j. AreAligned n (edge_at es k) (edge_at es j)) js
          → AllByRecursion (Rises es) js → AllByRecursion (λ j. IsSameAcross p (spot_on (edge_at es j) m)) js
      others [] a r' = tt
      others (j ∷ js) a r' = (
        same_chain (across p) (across (spot_on (edge_at es k) m)) (across (spot_on (edge_at es j) m)) hp.runs
            (spot_at (edge_at es k) m r.0).runs (spot_at (edge_at es j) m r'.0).runs (sym h)
            (aligned_spots n m dn (edge_at es k) (edge_at es j) r.0 r'.0 a.0),
        others js a.1 r'.1,
      )

  -- of each strand
  abbrev Holds : Strand → Type 0
  Holds s = IsBundle es n s.bundle × AllByRecursion (Rises es) s.bundle

  hold : (ss : List Strand) → AreRanked es n (bundles_of ss) → AllByRecursion (Rises es) (concat (bundles_of ss))
      → AllByRecursion Holds ss
  hold [] r h = tt
  hold (s ∷ ss) r h = (
    (r.0, front (Rises es) s.bundle (concat (bundles_of ss)) h),
    hold ss r.2 (back (Rises es) s.bundle (concat (bundles_of ss)) h),
  )

  module _ (side : Place → List Strand) where
    place_spots : (p : Spot) (stops : List Spot) → IsSpotAt m p → (ss : List Strand) → AllByRecursion Holds ss
        → AllByRecursion (λ s. MeetsAt es m p s.bundle) ss
        → AllByRecursion (λ s. AllByRecursion (λ j. HasSpot (p ∷ stops) (spot_on (edge_at es j) m)) s.bundle) ss
    place_spots p stops hp [] h k = tt
    place_spots p stops hp (s ∷ ss) h k =
        (first s.bundle (bundle_spots p hp s.bundle h.0.0 h.0.1 k.0), place_spots p stops hp ss h.1 k.1)
      where
        first : (ks : List ℕ) → AllByRecursion (λ j. IsSameAcross p (spot_on (edge_at es j) m)) ks
            → AllByRecursion (λ j. HasSpot (p ∷ stops) (spot_on (edge_at es j) m)) ks
        first [] a = tt
        first (k ∷ ks) a = (inl a.0, first ks a.1)

    later_spots : (p : Spot) (stops : List Spot) (ss : List Strand)
        → AllByRecursion (λ s. AllByRecursion (λ j. HasSpot stops (spot_on (edge_at es j) m)) s.bundle) ss
        → AllByRecursion (λ s. AllByRecursion (λ j. HasSpot (p ∷ stops) (spot_on (edge_at es j) m)) s.bundle) ss
    later_spots p stops [] h = tt
    later_spots p stops (s ∷ ss) h = (later s.bundle h.0, later_spots p stops ss h.1)
      where
        later : (ks : List ℕ) → AllByRecursion (λ j. HasSpot stops (spot_on (edge_at es j) m)) ks
            → AllByRecursion (λ j. HasSpot (p ∷ stops) (spot_on (edge_at es j) m)) ks
        later [] a = tt
        later (k ∷ ks) a = (inr a.0, later ks a.1)

    all_spots : (ps : List Place) → AllByRecursion (IsSpotAt m) (spots_of ps) → AllByRecursion Holds (gathered side ps)
        → AllByRecursion (λ p. AllByRecursion (λ s. MeetsAt es m p.at s.bundle) (side p)) ps
        → AllByRecursion (λ s. AllByRecursion (λ j. HasSpot (spots_of ps) (spot_on (edge_at es j) m)) s.bundle)
        (gathered side ps)
    all_spots [] hp h k = tt
    all_spots (p ∷ ps) hp h k =
        AllByRecursion-append
        (λ s. AllByRecursion (λ j. HasSpot (spots_of (p ∷ ps)) (spot_on (edge_at es j) m)) s.bundle) (side p)
        (gathered side ps)
        (place_spots p.at (spots_of ps) hp.0 (side p) (front Holds (side p) (gathered side ps) h) k.0)
        (later_spots p.at (spots_of ps) (gathered side ps)
        (all_spots ps hp.1 (back Holds (side p) (gathered side ps) h) k.1))

of_all : (P : ℕ → Type 0) (ss : List Strand) → AllByRecursion (λ s. AllByRecursion P s.bundle) ss
    → AllByRecursion P (concat (bundles_of ss))
of_all P [] h = tt
of_all P (s ∷ ss) h = AllByRecursion-append P s.bundle (concat (bundles_of ss)) h.0 (of_all P ss h.1)

-- ---- what holds of all edges that reach two heights holds of each
of_reaching : (P : ℕ → Type 0) (k : ℕ) (es : List LeafEdge) (l u : Level) → AllByRecursion P (reaching k es l u)
    → (i : ℕ) → i < length es → reaches (edge_at es i) l u ≡ true → P (k + i)
of_reaching P k [] l u h i o r = absurd (omega arith)
of_reaching P k (e ∷ es) l u h zero o r =
    let z : k ≡ k + zero = omega arith in
    subst P z (subst (λ (t : Bool). AllByRecursion P (if t then k ∷ reaching (k + 1) es l u else reaching
    (k + 1) es l u)) r h).0
of_reaching P k (e ∷ es) l u h (suc i) o r =
    let z : k + 1 + i ≡ k + suc i = omega arith in
    subst P z (of_reaching P (k + 1) es l u (by_test (reaches e.edge l u) h) i (omega arith) r)
  where
    by_test : (t : Bool) → AllByRecursion P (if t then k ∷ reaching (k + 1) es l u else reaching (k + 1) es l u)
        → AllByRecursion P (reaching (k + 1) es l u)
    by_test true h = h.1
    by_test false h = h

rises_of : (es : List LeafEdge) (l u : Level) (ks : List ℕ) → AllByRecursion (IsLive es l u) ks
    → AllByRecursion (Rises es) ks
rises_of es l u [] h = tt
rises_of es l u (k ∷ ks) h = (h.0.reaches.rises, rises_of es l u ks h.1)

module _ (es : List LeafEdge) (l u m : Level) (dl : pos 0 <ℤ l.d) (side : Place → List Strand) (ps : List Place)
    (b : AreBundles es l u (bundles_of (gathered side ps)))
    (hp : AllByRecursion (IsSpotAt m) (spots_of ps)) (meet : AllByRecursion
    (λ p. AllByRecursion (λ s. MeetsAt es m p.at s.bundle) (side p)) ps) where
  -- an edge of a bundle meets the height at a place
  pub met_by_side : (k : ℕ) → k < length es → reaches (edge_at es k) l u ≡ true
      → HasSpot (spots_of ps) (spot_on (edge_at es k) m)
  met_by_side k o r =
      let P : ℕ → Type 0 = λ j. HasSpot (spots_of ps) (spot_on (edge_at es j) m) in
      let ss : List Strand = gathered side ps in
      let all : AllByRecursion P (concat (bundles_of ss)) = of_all P ss (all_spots es l m dl side ps hp
      (hold es l m dl ss b.ranked (rises_of es l u (concat (bundles_of ss))
      (live_bundles es l u (bundles_of ss) b))) meet) in
      let z : 0 + k ≡ k = omega arith in
      subst P z (of_reaching P 0 es l u (recursion_from_All P (reaching 0 es l u)
      (All-permutation P (concat (bundles_of ss)) (reaching 0 es l u)
      (IsPermutation-sym (reaching 0 es l u) (concat (bundles_of ss)) b.members)
      (All-from_recursion P (concat (bundles_of ss)) all))) k o r)
