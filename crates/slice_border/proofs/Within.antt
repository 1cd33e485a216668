-- The ends of a border's pieces are within the limit of the edges' coordinates.
use Rattle.std.proofs.Common.{◌≡◌, ℕ, zero, suc, ◌+◌, ◌*◌, ◌<◌, ◌≤◌, Bool, true, false, List, [], ◌∷◌, ◌++◌, length, refl, sym, arith, subst}
use lib.IntN.{ℤ, pos, ◌+ℤ◌, ◌-ℤ◌, ◌*ℤ◌}
use lib.Signed.{◌<ℤ◌, ◌≤ℤ◌}
use Rattle.std.specs.Prelude.{if◌then◌else◌, unsigned_abs}
use Rattle.std.specs.List.{AllByRecursion, All, concat}
use Rattle.std.proofs.lemmas.Int.{ints, unsigned_abs-mul}
use Rattle.std.proofs.lemmas.Nat.{mul-le}
use Rattle.std.proofs.lemmas.List.Elements.{recursion_from_All, All-from_recursion}
use Rattle.scad_base.proofs.Integers.{gap_of_at_most}
use Rattle.slice_pieces.proofs.Ends.{joined, from_ends}
use Rattle.scad_base.proofs.Lists.{AllByRecursion-append}
use Rattle.scad_geom.specs.declared.point.Edge.{Edge}
use Rattle.scad_geom.specs.declared.level.Level.{Level}
use Rattle.scad_geom.specs.declared.level.LeafEdge.{LeafEdge}
use Rattle.scad_geom.specs.declared.shape.Shape.{Shape}
use Rattle.scad_geom.specs.Within.{IsEdgeWithin}
use Rattle.scad_geom.specs.Line.{low, high, rise, run, offset, x_at}
use Rattle.scad_geom.specs.Level.{level_of, IsLower, IsLevelWithin}
use Rattle.scad_geom.proofs.Ring.{ring, ◌⊕◌, ◌⊖◌, ◌⊗◌, v0, v1, v2, v3, v4, v5}
use Rattle.scad_geom.proofs.Bounds.{low_within, high_within}
use Rattle.scad_geom.proofs.Heights.{Reaches, lower_then_at_most, at_most_then_lower}
use Rattle.slice_events.specs.Levels.{IsRising}
use Rattle.slice_bundles.specs.Bundles.{edge_at, reaches}
use Rattle.slice_bundles.proofs.Live.{IsLive, live_bundles, reaches_is}
use Rattle.slice_pieces.specs.declared.piece.Spot.{Spot}
use Rattle.slice_pieces.specs.declared.piece.Piece.{Piece}
use Rattle.slice_border.specs.Pieces.{spot_on, whole_spot, slab_pieces, is_flat_at, passes_at, spots_at, AreStops, flat_pieces, AreLevelPieces, ArePieces}
use Rattle.slice_pieces.specs.Pieces.{ends_of}
use Rattle.slice_pieces.specs.Spots.{IsSpotWithin}
use Rattle.slice_pieces.specs.Pieces.{IsPieceWithin}
use Rattle.scad_base.proofs.Lists.{AllByRecursion-append}
use Rattle.slice_border.proofs.Winding.{of_stops}
use Rattle.slice_pieces.proofs.Ends.{joined}
use Rattle.slice_border.proofs.Ends.{flat_ends, slab_ends, AtBoth, each_of}

-- ---- where an edge passes a height: between its ends
pub by_weights : (x y g h n d : ℤ) → (g -ℤ x) *ℤ n +ℤ ((h -ℤ y) *ℤ x -ℤ (g -ℤ x) *ℤ y) *ℤ d
    ≡ x *ℤ (h *ℤ d -ℤ n) +ℤ g *ℤ
    (n -ℤ y *ℤ d)
by_weights x y g h n d = ring (x ∷ y ∷ g ∷ h ∷ n ∷ d ∷ [])
    ((v2 ⊖ v0) ⊗ v4 ⊕ ((v3 ⊖ v1) ⊗ v0 ⊖ (v2 ⊖ v0) ⊗ v1) ⊗ v5)
    (v0 ⊗ (v3 ⊗ v5 ⊖ v4) ⊕ v2 ⊗ (v4 ⊖ v1 ⊗ v5)) refl

pub weights_add : (y h n d : ℤ) → (h *ℤ d -ℤ n) +ℤ (n -ℤ y *ℤ d) ≡ (h -ℤ y) *ℤ d
weights_add y h n d = ring (y ∷ h ∷ n ∷ d ∷ []) ((v1 ⊗ v3 ⊖ v2) ⊕ (v2 ⊖ v0 ⊗ v3)) ((v1 ⊖ v0) ⊗ v3)
    refl

-- the limit times a weight
pub weighed : (limit : ℕ) (x w : ℤ) → unsigned_abs x ≤ limit → unsigned_abs (x *ℤ w) ≤ limit * unsigned_abs w
weighed limit x w h = rw (unsigned_abs-mul x w) (mul-le (unsigned_abs x) (unsigned_abs w) limit (unsigned_abs w) h
    (omega arith))

abs_sum : (x y : ℤ) → unsigned_abs (x +ℤ y) ≤ unsigned_abs x + unsigned_abs y
abs_sum x y = omega (arith, ints)

sum_abs : (v w : ℤ) → pos 0 ≤ℤ v → pos 0 ≤ℤ w
    → unsigned_abs (v +ℤ w) ≡ unsigned_abs v + unsigned_abs w
sum_abs v w p q = omega (arith, ints)

both_weighed : (limit : ℕ) (x g v w : ℤ) → unsigned_abs x ≤ limit → unsigned_abs g ≤ limit
    → pos 0 ≤ℤ v → pos 0 ≤ℤ w → unsigned_abs (x *ℤ v +ℤ g *ℤ w) ≤ limit * unsigned_abs (v +ℤ w)
both_weighed limit x g v w hx hg pv pw =
    let s = abs_sum (x *ℤ v) (g *ℤ w) in
    let p = weighed limit x v hx in
    let q = weighed limit g w hg in
    rw (sum_abs v w pv pw) (omega (arith, s, p, q))

pub x_within : (limit : ℕ) (e : Edge) (l : Level) → IsEdgeWithin limit e → ((low e).y *ℤ l.d) ≤ℤ l.n
    → l.n ≤ℤ ((high e).y *ℤ l.d)
    → unsigned_abs (x_at e l.n l.d) ≤ limit * (unsigned_abs (rise e) * unsigned_abs l.d)
unfolding x_at run offset rise
x_within limit e l w h k =
    let p = low e in
    let q = high e in
    rw (
      ← (unsigned_abs-mul (q.y -ℤ p.y) l.d),
      ← (weights_add p.y q.y l.n l.d),
      by_weights p.x p.y q.x q.y l.n l.d,
    )
    (both_weighed limit p.x q.x (q.y *ℤ l.d -ℤ l.n) (l.n -ℤ p.y *ℤ l.d) (low_within limit e w).x
    (high_within limit e w).x
    (gap_of_at_most l.n (q.y *ℤ l.d) k) (gap_of_at_most (p.y *ℤ l.d) l.n h))

pub rise_within : (limit : ℕ) (e : Edge) → IsEdgeWithin limit e → unsigned_abs (rise e) ≤ 2 * limit
unfolding rise
rise_within limit e w =
    let h = (low_within limit e w).y in
    let k = (high_within limit e w).y in
    omega (arith, ints)

pub size_above : (z : ℤ) → pos 0 <ℤ z → 0 < unsigned_abs z
size_above z h = omega (arith, ints)

module _ (limit : ℕ) (lp : 0 < limit) where
  passing_spot : (e : Edge) (l : Level) → IsEdgeWithin limit e → IsLevelWithin limit l → pos 0 <ℤ rise e
      → ((low e).y *ℤ l.d) ≤ℤ l.n → l.n ≤ℤ ((high e).y *ℤ l.d)
      → IsSpotWithin limit (spot_on e l)
  passing_spot e l w v r h k = record {
    level = v;
    positive = size_above (rise e) r;
    run = rise_within limit e w;
    size =
        x_within limit e l w h k;
  }

  end_spot : (x : ℤ) (l : Level) → unsigned_abs x ≤ limit → IsLevelWithin limit l
      → IsSpotWithin limit (whole_spot x l)
  end_spot x l h v =
      let b = weighed limit x l.d h in
      record { level = v; positive = omega arith; run = omega arith; size = omega (arith, b) }

  -- ---- on a level
  met_spot : (e : Edge) (l : Level) → IsEdgeWithin limit e → IsLevelWithin limit l → passes_at e l ≡ true
      → IsSpotWithin limit (spot_on e l)
  unfolding reaches
  met_spot e l w v h =
      let r = reaches_is e l l h in
      let f = r.from in
      let t = r.to in
      passing_spot e l w v r.rises (omega (arith, ints)) (omega (arith, ints))

  spots_within : (es : List LeafEdge) (l : Level) → AllByRecursion (λ e. IsEdgeWithin limit e.edge) es
      → IsLevelWithin limit l → AllByRecursion (IsSpotWithin limit) (spots_at es l)
  spots_within [] l w v = tt
  spots_within (e ∷ es) l w v = AllByRecursion-append (IsSpotWithin limit) _ (spots_at es l)
      (by_tests (is_flat_at e.edge l) (passes_at e.edge l) refl) (spots_within es l w.1 v)
    where
      by_tests : (f t : Bool) → passes_at e.edge l ≡ t
          → AllByRecursion (IsSpotWithin limit)
          (if f then whole_spot e.edge.a.x l ∷ (whole_spot e.edge.b.x l ∷ []) else
          if t then spot_on e.edge l ∷ [] else [])
      by_tests true t q = (end_spot e.edge.a.x l w.0.a.x v, (end_spot e.edge.b.x l w.0.b.x v, tt))
      by_tests false true q = (met_spot e.edge l w.0 v q, tt)
      by_tests false false q = tt

  stops_within : (es : List LeafEdge) (l : Level) (stops : List Spot)
      → AllByRecursion (λ e. IsEdgeWithin limit e.edge)
      es → IsLevelWithin limit l → AreStops es l stops
      → AllByRecursion (IsSpotWithin limit) stops
  stops_within es l stops w v h = of_stops (IsSpotWithin limit) (spots_at es l) stops (spots_within es l w v) h.sound

  -- ---- between two levels
  edge_within : (es : List LeafEdge) (k : ℕ) → AllByRecursion (λ e. IsEdgeWithin limit e.edge) es → k < length es
      → IsEdgeWithin limit (edge_at es k)
  edge_within [] k w h = absurd (omega arith)
  edge_within (e ∷ es) zero w h = w.0
  edge_within (e ∷ es) (suc k) w h = edge_within es k w.1 (omega arith)

  reaching_spots : (e : Edge) (l u : Level) → IsEdgeWithin limit e → IsLevelWithin limit l → IsLevelWithin limit u
      → IsLower l u → Reaches e l u
      → IsSpotWithin limit (spot_on e l) × IsSpotWithin limit (spot_on e u)
  reaching_spots e l u w vl vu o r =
      let f = r.from in
      let t = r.to in
      let one : pos 0 <ℤ pos 1 = omega (arith, ints) in
      let a = lower_then_at_most l u (level_of (high e).y) vl.positive vu.positive one o t in
      let b = at_most_then_lower (level_of (low e).y) l u one vl.positive vu.positive f o in (
        passing_spot e l w vl r.rises (omega (arith, ints)) (omega (arith, ints)),
        passing_spot e u w vu r.rises
            (omega (arith, ints)) (omega (arith, ints)),
      )

  bundles_within : (es : List LeafEdge) (l u : Level) (ks : List ℕ)
      → AllByRecursion (λ e. IsEdgeWithin limit e.edge) es
      → IsLevelWithin limit l → IsLevelWithin limit u → IsLower l u
      → AllByRecursion (IsLive es l u) ks → AllByRecursion (AtBoth (IsSpotWithin limit) es l u) ks
  bundles_within es l u ks w vl vu o h =
      each_of (IsLive es l u) (AtBoth (IsSpotWithin limit) es l u) (λ k r. reaching_spots (edge_at es k) l u
      (edge_within es k w r.there) vl vu o r.reaches) ks h

  -- ---- on all levels
  ends_within : (es : List LeafEdge) (shape : Shape) (ls : List Level) (pieces : List Piece)
      → AllByRecursion (λ e. IsEdgeWithin limit e.edge) es → AllByRecursion (IsLevelWithin limit) ls
      → IsRising ls → AreLevelPieces es shape ls pieces → AllByRecursion (IsSpotWithin limit) (ends_of pieces)
  ends_within es shape [] pieces w v r h = subst
      (λ (qs : List Piece). AllByRecursion (IsSpotWithin limit) (ends_of qs))
      (sym h) tt
  ends_within es shape (l ∷ []) pieces w v r h =
      subst (λ (qs : List Piece). AllByRecursion (IsSpotWithin limit) (ends_of qs)) (sym h.2)
      (flat_ends (IsSpotWithin limit) es shape h.0 (stops_within es l h.0 w v.0 h.1))
  ends_within es shape (l ∷ (u ∷ ls)) pieces w v r h =
      subst (λ (qs : List Piece). AllByRecursion (IsSpotWithin limit) (ends_of qs)) (sym h.6)
      (joined (IsSpotWithin limit) (flat_pieces es shape h.0 ++ slab_pieces es shape l u h.1) h.2
      (joined (IsSpotWithin limit) (flat_pieces es shape h.0) (slab_pieces es shape l u h.1)
      (flat_ends (IsSpotWithin limit) es shape h.0 (stops_within es l h.0 w v.0 h.3))
      (slab_ends (IsSpotWithin limit) es shape l u h.1 (bundles_within es l u (concat h.1) w v.0 v.1.0 r.0
      (live_bundles es l u h.1 h.4))))
      (ends_within es shape (u ∷ ls) h.2 w v.1 r.1 h.5))

  pub spots_are_within : (es : List LeafEdge) → All (λ e. IsEdgeWithin limit e.edge) es
      → (shape : Shape) (pieces : List Piece)
      → (h : ArePieces es shape pieces) → All (IsLevelWithin limit) h.levels → All (IsPieceWithin limit) pieces
  spots_are_within es w shape pieces h v =
      All-from_recursion (IsPieceWithin limit) pieces
      (from_ends limit pieces (ends_within es shape h.levels pieces
      (recursion_from_All (λ e. IsEdgeWithin limit e.edge)
      es w) (recursion_from_All (IsLevelWithin limit) h.levels v)
      h.are_levels.rising h.are_pieces))
