-- Bundles keep their order from the lower height to the upper one.
use Rattle.std.proofs.Common.{ℕ, List, [], ◌∷◌, refl, sym}
use lib.IntN.{pos}
use lib.Signed.{◌<ℤ◌}
use Rattle.std.specs.List.{AllByRecursion, concat}
use Rattle.scad_geom.specs.declared.point.Edge.{Edge}
use Rattle.scad_geom.specs.declared.level.Level.{Level}
use Rattle.scad_geom.specs.declared.level.LeafEdge.{LeafEdge}
use Rattle.scad_geom.specs.Line.{rise, x_at}
use Rattle.scad_geom.specs.Heights.{AreNeighbours}
use Rattle.scad_geom.specs.EdgeOrder.{AreAligned}
use Rattle.scad_geom.proofs.Heights.{lower_then_at_most, at_most_then_lower, at_most_chain, same_at_least, same_height}
use Rattle.scad_geom.proofs.Order.{front, back, before_inside, before_between, aligned_all}
use Rattle.slice_bundles.specs.Bundles.{no_edge, edge_at, IsBundle, Precedes, AreRanked, AreBundles}
use Rattle.slice_bundles.specs.KeptOrder.{IsLeftAt, IsNotRightAt, IsSamePlaceAt, AllStand, AllStandInOrder, KeepOrder}
use Rattle.slice_bundles.proofs.Live.{IsLive, live_bundles}

-- where an edge passes a height, as a number over its rise
abbrev place : Level → Edge → Level
place at e = record { n = x_at e at.n at.d; d = rise e }

-- what holds of two edges holds of edges at the same places
abbrev Moves : Level → (Edge → Edge → Type 0) → Type 0
Moves at R =
    (m k j i : Edge) → pos 0 <ℤ rise m → pos 0 <ℤ rise k → pos 0 <ℤ rise j → pos 0 <ℤ rise i
    → IsSamePlaceAt at m k
    → R k j → IsSamePlaceAt at j i → R m i

moves_left : (at : Level) → Moves at (IsLeftAt at)
moves_left at m k j i pm pk pj pi e h f =
    let a = at_most_then_lower (place at m) (place at k) (place at j) pm pk pj (same_at_least (place at m) (place at k)
    e) h in
    lower_then_at_most (place at m) (place at j) (place at i) pm pj pi a (same_at_least (place at j) (place at i) f)

moves_not_right : (at : Level) → Moves at (IsNotRightAt at)
moves_not_right at m k j i pm pk pj pi e h f =
    let a = at_most_chain (place at m) (place at k) (place at j) pm pk pj (same_at_least (place at m) (place at k) e) h
    in
    at_most_chain (place at m) (place at j) (place at i) pm pj pi a (same_at_least (place at j) (place at i) f)

moves_same : (at : Level) → Moves at (IsSamePlaceAt at)
moves_same at m k j i pm pk pj pi e h f =
    same_height (place at m) (place at i)
    (moves_not_right at m k j i pm pk pj pi e (same_at_least (place at k) (place at j) h) f)
    (moves_not_right at i j k m pi pj pk pm (sym f) (same_at_least (place at j) (place at k) (sym h)) (sym e))

module _ (es : List LeafEdge) (l u : Level) (n : AreNeighbours es l u) where
  -- ---- from the first edges of bundles to all
  -- each edge of a bundle lies where its first does
  same_as_first : (at : Level) (k : ℕ) (ks : List ℕ)
      → AllByRecursion (λ j. AreAligned l (edge_at es k) (edge_at es j))
      ks → AllByRecursion (λ j. IsSamePlaceAt at (edge_at es k) (edge_at es j)) ks
  same_as_first at k [] a = tt
  same_as_first at k (j ∷ js) a = (
    aligned_all l n.lower_divisor (edge_at es k) (edge_at es j) a.0 at.n at.d,
    same_as_first at k js a.1,
  )

  module _ (at : Level) (R : Edge → Edge → Type 0) (move : Moves at R) where
    stands : (m k j : ℕ) (is : List ℕ) → IsLive es l u m → IsLive es l u k → IsLive es l u j
        → AllByRecursion (IsLive es l u) is → IsSamePlaceAt at (edge_at es m) (edge_at es k)
        → R (edge_at es k) (edge_at es j)
        → AllByRecursion (λ i. IsSamePlaceAt at (edge_at es j) (edge_at es i)) is
        → AllByRecursion (λ i. R (edge_at es m) (edge_at es i)) is
    stands m k j [] lm lk lj ls e h f = tt
    stands m k j (i ∷ is) lm lk lj ls e h f = (
      move (edge_at es m) (edge_at es k) (edge_at es j) (edge_at es i) lm.reaches.rises lk.reaches.rises
          lj.reaches.rises ls.0.reaches.rises e h f.0,
      stands m k j is lm lk lj ls.1 e h f.1,
    )

    all_stand : (ms : List ℕ) (k j : ℕ) (is : List ℕ) → AllByRecursion (IsLive es l u) ms → IsLive es l u k
        → IsLive es l u j → AllByRecursion (IsLive es l u) is
        → AllByRecursion (λ m. IsSamePlaceAt at (edge_at es k) (edge_at es m)) ms → R (edge_at es k) (edge_at es j)
        → AllByRecursion (λ i. IsSamePlaceAt at (edge_at es j) (edge_at es i)) is
        → AllStand R es ms is
    all_stand [] k j is lm lk lj ls e h f = tt
    all_stand (m ∷ ms) k j is lm lk lj ls e h f = (
      stands m k j is lm.0 lk lj ls (sym e.0) h f,
      all_stand ms k j is lm.1
          lk lj ls e.1 h f,
    )

    bundles_stand : (k : ℕ) (ks : List ℕ) (j : ℕ) (js : List ℕ) → IsBundle es l (k ∷ ks)
        → IsBundle es l (j ∷ js)
        → AllByRecursion (IsLive es l u) (k ∷ ks) → AllByRecursion (IsLive es l u) (j ∷ js)
        → R (edge_at es k) (edge_at es j) → AllStand R es (k ∷ ks) (j ∷ js)
    bundles_stand k ks j js bk bj lk lj h = all_stand (k ∷ ks) k j (j ∷ js) lk lk.0 lj.0 lj
        (refl, same_as_first at k ks bk.1) h (refl, same_as_first at j js bj.1)

    module _ (heads : (k j : ℕ) → IsLive es l u k → IsLive es l u j → Precedes es l (k ∷ []) (j ∷ []) → R (edge_at es k) (edge_at es j)) where
      before_later : (k : ℕ) (ks : List ℕ) (bs : List (List ℕ)) → IsBundle es l (k ∷ ks)
          → AllByRecursion (IsLive es l u) (k ∷ ks) → AllByRecursion (Precedes es l (k ∷ ks)) bs
          → AreRanked es l bs → AllByRecursion (IsLive es l u) (concat bs)
          → AllByRecursion (AllStand R es (k ∷ ks)) bs
      before_later k ks [] bk lk o r ls = tt
      before_later k ks ([] ∷ bs) bk lk o r ls = absurd r.0
      before_later k ks ((j ∷ js) ∷ bs) bk lk o r ls =
          let lj = front (IsLive es l u) (j ∷ js) (concat bs) ls in (
            bundles_stand k ks j js bk r.0 lk lj (heads k j lk.0 lj.0 o.0),
            before_later k ks bs bk lk o.1 r.2
                (back (IsLive es l u) (j ∷ js) (concat bs) ls),
          )

      all_in_order : (bs : List (List ℕ)) → AreRanked es l bs → AllByRecursion (IsLive es l u) (concat bs)
          → AllStandInOrder R es bs
      all_in_order [] r ls = tt
      all_in_order ([] ∷ bs) r ls = absurd r.0
      all_in_order ((k ∷ ks) ∷ bs) r ls =
          let rest = back (IsLive es l u) (k ∷ ks) (concat bs) ls in (
            before_later k ks bs r.0 (front (IsLive es l u) (k ∷ ks) (concat bs) ls) r.1 r.2 rest,
            all_in_order bs r.2
                rest,
          )

  all_together : (at : Level) (bs : List (List ℕ)) → AreRanked es l bs
      → AllByRecursion (IsLive es l u) (concat bs) → AllByRecursion (λ b. AllStand (IsSamePlaceAt at) es b b) bs
  all_together at [] r ls = tt
  all_together at ([] ∷ bs) r ls = absurd r.0
  all_together at ((k ∷ ks) ∷ bs) r ls =
      let lk = front (IsLive es l u) (k ∷ ks) (concat bs) ls in (
        bundles_stand at (IsSamePlaceAt at) (moves_same at) k ks k ks r.0 r.0 lk lk refl,
        all_together at bs r.2
            (back (IsLive es l u) (k ∷ ks) (concat bs) ls),
      )

pub bundles_keep_order : (es : List LeafEdge) (l u : Level) (bs : List (List ℕ)) → AreNeighbours es l u
    → AreBundles es l u bs → KeepOrder es l u bs
bundles_keep_order es l u bs n b =
    let live = live_bundles es l u bs b in
    record {
      throughout = λ at dat from to. all_in_order es l u n at (IsNotRightAt at) (moves_not_right at)
          (λ k j lk lj o. before_between es l u n k j no_edge lk.there lj.there lk.reaches lj.reaches o at dat from to)
          bs b.ranked live;
      between = λ at dat from to. all_in_order es l u n at (IsLeftAt at) (moves_left at)
          (λ k j lk lj o. before_inside es l u n k j no_edge lk.there lj.there lk.reaches lj.reaches o at dat from to)
          bs b.ranked live;
      together = λ at. all_together es l u n at bs b.ranked live;
    }
