-- Each point of a piece but its ends is a border point.
use Rattle.std.proofs.Common.{◌≡◌, ◌≢◌, ℕ, inl, inr, Bool, true, false, List, [], ◌∷◌, ◌++◌, refl, sym, ◌∙◌, arith, subst, append_assoc}
use lib.IntN.{ℤ, pos, ◌-ℤ◌, ◌*ℤ◌, neg_ℤ}
use lib.Signed.{◌<ℤ◌}
use Rattle.std.specs.Prelude.{Option, Some, None, unsigned_abs}
use Rattle.std.specs.List.{AllByRecursion, All, position}
use Rattle.std.proofs.lemmas.Int.{ints}
use Rattle.std.proofs.lemmas.List.Elements.{All-from_recursion}
use Rattle.scad_base.proofs.Products.{zero_factor, positive_product}
use Rattle.scad_geom.specs.declared.level.Level.{Level}
use Rattle.scad_geom.specs.declared.level.LeafEdge.{LeafEdge}
use Rattle.scad_geom.specs.declared.shape.Shape.{Shape}
use Rattle.scad_geom.specs.Line.{rise, left_of}
use Rattle.scad_geom.specs.Point.{Point}
use Rattle.scad_geom.specs.Winding.{side_by, is_beyond}
use Rattle.scad_geom.specs.Shape.{is_in_by}
use Rattle.scad_geom.specs.Level.{IsLower, IsAtMost}
use Rattle.scad_geom.specs.Heights.{AreNeighbours, heights}
use Rattle.scad_geom.proofs.Integers.{neg_mul}
use Rattle.scad_geom.proofs.Heights.{lower_then_at_most, at_most_then_lower, lower_weak, heights_positive}
use Rattle.scad_geom.proofs.Order.{apart_levels}
use Rattle.scad_geom.proofs.Turns.{level_at}
use Rattle.slice_events.specs.Levels.{IsRising, AreLevels}
use Rattle.slice_bundles.specs.Bundles.{edge_at, AreBundles}
use Rattle.slice_bundles.proofs.Live.{IsLive, live_bundles}
use Rattle.slice_pieces.specs.declared.piece.Spot.{Spot}
use Rattle.slice_pieces.specs.declared.piece.Piece.{Piece}
use Rattle.slice_border.specs.Pieces.{spot_on, piece_between, bundle_piece, slab_pieces, spots_at, IsLeft, GoRight, AreStops, covers, stretch_piece, flat_pieces, AreLevelPieces, ArePieces}
use Rattle.slice_pieces.specs.Spots.{point_of}
use Rattle.slice_border.specs.BorderPoints.{IsBorderPoint}
use Rattle.winding_laws.specs.Approach.{AreLevel}
use Rattle.slice_pieces.specs.Inside.{IsBelow, IsLeftOf, IsBetween, IsInside}
use Rattle.scad_base.proofs.Integers.{gap_of_less}
use Rattle.slice_border.proofs.Middle.{size_of, half_point, lower_scaled, scaled_below, value_right_at, value_left_at, value_right, value_left}
use Rattle.slice_border.proofs.Slabs.{side_up_is, later_live, later_ranked}
use Rattle.slice_border.proofs.Winding.{IsSpotAt, stops_at, spots_are_at}
use Rattle.scad_base.proofs.Lists.{AllByRecursion-append}
use Rattle.slice_border.proofs.Walk.{UpTo, at_first, at_next, neighbours_next}
use Rattle.slice_border.proofs.BalanceTurns.{is_right, side_turned}
use Rattle.slice_border.proofs.BalanceSpots.{IsAt, values_alike}
use Rattle.slice_border.specs.Pieces.{across}
use Rattle.slice_border.proofs.BalanceStops.{IsUpTo, first_up_to, next_up_to, IsBeside, beside, further}
use Rattle.slice_border.proofs.BalanceFlat.{spot_is_at, spot_divisor, alike_beside}
use Rattle.scad_geom.proofs.Heights.{same_at_least, same_at_most, same_chain}
use Rattle.std.proofs.lemmas.Bool.{true≢false}

nothing : (z d : ℤ) → z ≡ pos 0 → neg_ℤ z *ℤ d ≡ pos 0
nothing z d h = let t : z *ℤ d ≡ pos 0 = rw h (omega (arith, ints)) in rw neg_mul (omega (arith, ints))

between_turned : (R : Point → Point → Type 0) (a p b : Point) → IsBetween R a p b → IsBetween R b p a
between_turned R a p b (inl h) = inr h
between_turned R a p b (inr h) = inl h

pub inside_turned : (a b p : Point) → pos 0 <ℤ a.d → IsInside a b p → IsInside b a p
inside_turned a b p da h = record {
  on_line = zero_factor (side_by p b a) a.d da (side_turned p a b ∙ nothing (side_by p a b) b.d h.on_line);
  between = elim h.between [
    | inl k ↦ inl (between_turned IsBelow a p b k)
    | inr k ↦ inr (sym k.1, sym k.0, between_turned IsLeftOf a p b k.2)
  ];
}

module _ (es : List LeafEdge) (shape : Shape) where
  -- each point inside the segment between two spots is a border point
  abbrev Borders : Spot → Spot → Type 0
  Borders s t = (p : Point) → pos 0 <ℤ p.d → IsInside (point_of s) (point_of t) p → IsBorderPoint es shape p

  abbrev AllBorder : List Piece → Type 0
  AllBorder qs = AllByRecursion (λ q. Borders q.from q.to) qs

  -- a piece that runs between two spots, where the values on its sides differ
  between_borders : (v w : Bool) (s t : Spot) (name : ℕ) → pos 0 <ℤ (point_of t).d
      → ((b c : Bool) → v ≡ b → w ≡ c → b ≢ c → Borders s t) → AllBorder (piece_between v w s t name)
  between_borders true true s t name dt h = tt
  between_borders true false s t name dt h = (h true false refl refl (λ e. cc), tt)
  between_borders false true s t name dt h = (
    λ p dp i. h false true refl refl (λ e. cc) p dp
        (inside_turned (point_of t) (point_of s) p dt i),
    tt,
  )
  between_borders false false s t name dt h = tt

  differing : (p : Point) (a r a' r' b c : Bool) → is_in_by a r es shape p ≡ b → is_in_by a' r' es shape p ≡ c
      → b ≢ c → IsBorderPoint es shape p
  differing p a r a' r' true true h k n = absurd (n refl)
  differing p a r a' r' true false h k n = record {
    held_above = a;
    held_right = r;
    held = h;
    missed_above =
        a';
    missed_right = r';
    missed = k;
  }
  differing p a r a' r' false true h k n = record {
    held_above = a';
    held_right = r';
    held = k;
    missed_above =
        a;
    missed_right = r;
    missed = h;
  }
  differing p a r a' r' false false h k n = absurd (n refl)

  -- ---- between two levels
  both_below : (a b : Point) → IsBelow a b → IsBelow b a → ⊥
  both_below a b h k = omega (arith, ints)

  below_level : (a p b : Point) → pos 0 <ℤ a.d → pos 0 <ℤ p.d → pos 0 <ℤ b.d → IsBelow a b
      → AreLevel a p → AreLevel p b → ⊥
  below_level a p b da dp db o h k =
      let m : IsAtMost (level_at b) (level_at p) = omega (arith, ints) in
      let n = lower_then_at_most (level_at a) (level_at b) (level_at p) da db dp o m in
      omega (arith, ints)

  module _ (l u : Level) (n : AreNeighbours es l u) (k : ℕ) (lk : IsLive es l u k) where
    run_positive : pos 0 <ℤ pos (unsigned_abs (rise (edge_at es k)))
    run_positive = subst (λ (z : ℤ). pos 0 <ℤ z) (sym (size_of (rise (edge_at es k)) lk.reaches.rises))
        lk.reaches.rises

    spot_there : (m : Level) → IsSpotAt m (spot_on (edge_at es k) m)
    spot_there m = record { at = refl; runs = run_positive }

    low_divisor : pos 0 <ℤ (point_of (spot_on (edge_at es k) l)).d
    low_divisor = spot_divisor l (spot_on (edge_at es k) l) n.lower_divisor (spot_there l)

    pub high_divisor : pos 0 <ℤ (point_of (spot_on (edge_at es k) u)).d
    high_divisor = spot_divisor u (spot_on (edge_at es k) u) n.upper_divisor (spot_there u)

    pub rises : IsBelow (point_of (spot_on (edge_at es k) l)) (point_of (spot_on (edge_at es k) u))
    rises = scaled_below (level_at (point_of (spot_on (edge_at es k) u))) l (pos (unsigned_abs (rise (edge_at es k))))
        run_positive (lower_scaled l u (pos (unsigned_abs (rise (edge_at es k)))) run_positive n.in_order)

    on_edge : (p : Point) → side_by p (point_of (spot_on (edge_at es k) l)) (point_of (spot_on (edge_at es k) u))
        ≡ pos 0 → left_of (edge_at es k) p.x p.y p.d ≡ pos 0
    on_edge p h =
        let r = rise (edge_at es k) in
        let factor : ℤ = (r *ℤ r) *ℤ (l.d *ℤ (u.n *ℤ l.d -ℤ l.n *ℤ u.d)) in
        let positive : pos 0 <ℤ factor = positive_product (r *ℤ r) (l.d *ℤ (u.n *ℤ l.d -ℤ l.n *ℤ u.d))
        (positive_product r r lk.reaches.rises lk.reaches.rises)
        (positive_product l.d (u.n *ℤ l.d -ℤ l.n *ℤ u.d) n.lower_divisor
        (gap_of_less (l.n *ℤ u.d) (u.n *ℤ l.d)
        n.in_order)) in
        zero_factor (left_of (edge_at es k) p.x p.y p.d) factor positive
        (sym (side_up_is p (edge_at es k) l u (pos (unsigned_abs r)) (size_of r lk.reaches.rises)) ∙ h)

    over_low : (p : Point) → pos 0 <ℤ p.d → IsBelow (point_of (spot_on (edge_at es k) l)) p
        → IsLower l (level_at p)
    over_low p dp h =
        let same = same_at_most (level_at (point_of (spot_on (edge_at es k) l))) l
        (spot_is_at l (spot_on (edge_at es k) l) (spot_there l)) in
        at_most_then_lower l (level_at (point_of (spot_on (edge_at es k) l))) (level_at p) n.lower_divisor low_divisor
        dp same h

    under_high : (p : Point) → pos 0 <ℤ p.d → IsBelow p (point_of (spot_on (edge_at es k) u))
        → IsLower (level_at p) u
    under_high p dp h =
        let same = same_at_least (level_at (point_of (spot_on (edge_at es k) u))) u
        (spot_is_at u (spot_on (edge_at es k) u) (spot_there u)) in
        lower_then_at_most (level_at p) (level_at (point_of (spot_on (edge_at es k) u))) u dp high_divisor
        n.upper_divisor h same

    pub inside_slab : (p : Point) → pos 0 <ℤ p.d → IsInside (point_of (spot_on (edge_at es k) l))
        (point_of (spot_on (edge_at es k) u)) p → IsLower l (level_at p) × IsLower (level_at p) u
    inside_slab p dp i = elim i.between [
      | inl h ↦ elim h [
        | inl o ↦ (over_low p dp o.0, under_high p dp o.1)
        | inr o ↦ absurd (both_below (point_of (spot_on (edge_at es k) l)) (point_of (spot_on (edge_at es k) u)) rises
            (lower_then_at_most (level_at (point_of (spot_on (edge_at es k) u))) (level_at p)
            (level_at (point_of (spot_on (edge_at es k) l))) high_divisor dp low_divisor o.0
            (lower_weak (level_at p) (level_at (point_of (spot_on (edge_at es k) l))) o.1)))
      ]
      | inr h ↦ absurd (below_level (point_of (spot_on (edge_at es k) l)) p (point_of (spot_on (edge_at es k) u))
          low_divisor dp high_divisor rises h.0 h.1)
    ]

    bundle_borders : (ks : List ℕ) (before rest : List (List ℕ))
        → AreBundles es l u (before ++ ((k ∷ ks) ∷ rest)) → AllBorder (bundle_piece es shape l u (k ∷ ks))
    bundle_borders ks before rest b =
        between_borders (is_in_by true false es shape (half_point es l u k))
        (is_in_by true true es shape (half_point es l u k)) (spot_on (edge_at es k) l) (spot_on (edge_at es k) u) k
        high_divisor
        (λ v w hv hw apart p dp i.
        let o = inside_slab p dp i in
        let on = on_edge p i.on_line in
        differing p true false true true v w
        (value_left_at es l u n k lk p dp o.0 o.1 on shape ks before rest b ∙ sym (value_left es l u n k lk shape ks
        before rest b) ∙ hv)
        (value_right_at es l u n k lk p dp o.0 o.1 on shape ks before rest b ∙ sym (value_right es l u n k lk shape ks
        before rest b) ∙ hw)
        apart)

  slab_borders : (l u : Level) → AreNeighbours es l u → (before bs : List (List ℕ))
      → AreBundles es l u (before ++ bs) → AllBorder (slab_pieces es shape l u bs)
  slab_borders l u n before [] b = tt
  slab_borders l u n before ([] ∷ bs) b = absurd (later_ranked es l before ([] ∷ bs) b.ranked).0
  slab_borders l u n before ((k ∷ ks) ∷ bs) b =
      let shifted : before ++ ((k ∷ ks) ∷ bs) ≡ (before ++ ((k ∷ ks) ∷ [])) ++ bs =
      sym (append_assoc before ((k ∷ ks) ∷ []) bs) in
      let live = later_live es l u before ((k ∷ ks) ∷ bs) (live_bundles es l u (before ++ ((k ∷ ks) ∷ bs)) b) in
      AllByRecursion-append (λ q. Borders q.from q.to) (bundle_piece es shape l u (k ∷ ks))
      (slab_pieces es shape l u bs)
      (bundle_borders l u n k live.0 ks before bs b)
      (slab_borders l u n (before ++ ((k ∷ ks) ∷ [])) bs (subst (AreBundles es l u) shifted b))

  -- ---- on a level

  not_beyond : (p b : Point) → IsLeftOf b p → is_right true p b ≡ false
  unfolding is_beyond
  not_beyond p b h = sym (omega (arith, ints))

  is_beyond_it : (p b : Point) → IsLeftOf p b → is_right true p b ≡ true
  unfolding is_beyond
  is_beyond_it p b h = sym (omega (arith, ints))

  -- no point lies between two spots of one height by its own
  ends_level : (l : Level) → pos 0 <ℤ l.d → (s t : Spot) → IsSpotAt l s → IsSpotAt l t → (p : Point)
      → pos 0 <ℤ p.d → IsBelow (point_of s) p → IsBelow p (point_of t) → ⊥
  ends_level l dl s t hs ht p dp h k =
      let from = same_at_most (level_at (point_of s)) l (spot_is_at l s hs) in
      let to = same_at_least (level_at (point_of t)) l (spot_is_at l t ht) in
      let a = at_most_then_lower l (level_at (point_of s)) (level_at p) dl (spot_divisor l s dl hs) dp from h in
      let b = lower_then_at_most (level_at p) (level_at (point_of t)) l dp (spot_divisor l t dl ht) dl k to in
      apart_levels l (level_at p) a (lower_weak (level_at p) l b)

  module _ (l : Level) (dl : pos 0 <ℤ l.d) (s t : Spot) (hs : IsSpotAt l s) (ht : IsSpotAt l t) (o : IsLeft s t) where
    -- a point inside the stretch lies at the height, with the one stop to its left and the other to its right
    pub inside_stretch : (p : Point) → pos 0 <ℤ p.d → IsInside (point_of s) (point_of t) p
        → IsAt l p × (is_right true p (point_of s) ≡ false) × (is_right true p (point_of t) ≡ true)
    inside_stretch p dp i = elim i.between [
      | inl h ↦ elim h [
        | inl k ↦ absurd (ends_level l dl s t hs ht p dp k.0 k.1)
        | inr k ↦ absurd (ends_level l dl t s ht hs p dp k.0 k.1)
      ]
      | inr h ↦ elim h.2 [
        | inl k ↦ (at h.0, not_beyond p (point_of s) k.0, is_beyond_it p (point_of t) k.1)
        | inr k ↦ absurd (true≢false (sym (further l true p dp s t hs ht (lower_weak (across s) (across t) o)
            (is_beyond_it p (point_of s) k.1)) ∙ not_beyond p (point_of t) k.0))
      ]
    ]
      where
        at : AreLevel (point_of s) p → IsAt l p
        at h = same_chain (level_at p) (level_at (point_of s)) l dp (spot_divisor l s dl hs) dl (sym h)
            (spot_is_at l s hs)

    stretch_borders : (name : Option ℕ) → AllByRecursion (IsBeside s t) (spots_at es l)
        → AllBorder (stretch_piece es shape s t name)
    stretch_borders None h = tt
    stretch_borders (Some name) h =
        between_borders (is_in_by true true es shape (point_of s)) (is_in_by false true es shape (point_of s)) s t name
        (spot_divisor l t dl ht)
        (λ v w hv hw apart p dp i.
        let inside = inside_stretch p dp i in
        let alike = alike_beside l dl true p dp s t hs ht o inside.1 inside.2 (spots_at es l) (spots_are_at es l) h in
        differing p true true false true v w
        (sym (values_alike l dl true (point_of s) true p (spot_divisor l s dl hs) dp (spot_is_at l s hs) inside.0 true
        es shape alike) ∙ hv)
        (sym (values_alike l dl true (point_of s) true p (spot_divisor l s dl hs) dp (spot_is_at l s hs) inside.0 false
        es shape alike) ∙ hw)
        apart)

  walk_borders : (l : Level) → pos 0 <ℤ l.d → (s : Spot) (ss : List Spot)
      → AllByRecursion (IsSpotAt l) (s ∷ ss)
      → GoRight (s ∷ ss) → AllByRecursion (IsUpTo s ss) (spots_at es l)
      → AllBorder (flat_pieces es shape (s ∷ ss))
  walk_borders l dl s [] hs r h = tt
  walk_borders l dl s (t ∷ ss) hs r h =
      AllByRecursion-append (λ q. Borders q.from q.to) (stretch_piece es shape s t (position (covers s t) es))
      (flat_pieces es shape (t ∷ ss))
      (stretch_borders l dl s t hs.0 hs.1.0 r.0 (position (covers s t) es) (beside l s t ss (spots_at es l) hs.1
      (spots_are_at es l) r.1 h))
      (walk_borders l dl t ss hs.1 r.1 (next_up_to l s t ss (spots_at es l) hs.0 hs.1.0 (spots_are_at es l) r.0 h))

  flat_borders : (l : Level) → pos 0 <ℤ l.d → (stops : List Spot) → AreStops es l stops
      → AllBorder (flat_pieces es shape stops)
  flat_borders l dl [] a = tt
  flat_borders l dl (s ∷ ss) a = walk_borders l dl s ss (stops_at es l (s ∷ ss) a) a.rightwards
      (first_up_to s ss (spots_at es l) a.complete)

  -- ---- level by level
  level_borders : (l : Level) (ls : List Level) (pieces : List Piece)
      → AllByRecursion (λ (l : Level). pos 0 <ℤ l.d)
      (l ∷ ls) → IsRising (l ∷ ls) → AllByRecursion (UpTo l ls) (heights es)
      → AreLevelPieces es shape (l ∷ ls) pieces → AllBorder pieces
  level_borders l [] pieces d r h a = subst AllBorder (sym a.2) (flat_borders l d.0 a.0 a.1)
  level_borders l (u ∷ ls) pieces d r h a =
      subst AllBorder (sym a.6)
      (AllByRecursion-append (λ q. Borders q.from q.to) (flat_pieces es shape a.0 ++ slab_pieces es shape l u a.1) a.2
      (AllByRecursion-append (λ q. Borders q.from q.to) (flat_pieces es shape a.0) (slab_pieces es shape l u a.1)
      (flat_borders l d.0 a.0 a.3) (slab_borders l u (neighbours_next es l u ls d r h) [] a.1 a.4))
      (level_borders u ls a.2 d.1 r.1 (at_next l u ls (heights es) d.0 d.1.0 (heights_positive es) r.0 h) a.5))

  by_levels : (ls : List Level) (pieces : List Piece) → AreLevels es ls → AreLevelPieces es shape ls pieces
      → AllBorder pieces
  by_levels [] pieces v a = subst AllBorder (sym a) tt
  by_levels (l ∷ ls) pieces v a = level_borders l ls pieces v.divisors v.rising
      (at_first l ls (heights es) v.complete)
      a

  at_point : (p : Point) → pos 0 <ℤ p.d → (pieces : List Piece) → AllBorder pieces
      → AllByRecursion (λ q. IsInside (point_of q.from) (point_of q.to) p → IsBorderPoint es shape p) pieces
  at_point p dp [] h = tt
  at_point p dp (q ∷ qs) h = (h.0 p dp, at_point p dp qs h.1)

pub pieces_are_border : (es : List LeafEdge) (shape : Shape) (pieces : List Piece) → ArePieces es shape pieces
    → (p : Point) → pos 0 <ℤ p.d
    → All (λ q. IsInside (point_of q.from) (point_of q.to) p → IsBorderPoint es shape p) pieces
pieces_are_border es shape pieces a p dp =
    All-from_recursion (λ q. IsInside (point_of q.from) (point_of q.to) p → IsBorderPoint es shape p) pieces
    (at_point es shape p dp pieces (by_levels es shape a.levels pieces a.are_levels a.are_pieces))
