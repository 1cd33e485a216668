-- Both ends of each piece of a border are points of the edge of its name.
use Rattle.std.proofs.Common.{◌≡◌, ℕ, Bool, true, false, cond, List, [], ◌∷◌, ◌++◌, get_or, refl, sym, ap, ◌∙◌, arith, subst}
use lib.IntN.{ℤ, pos, ◌+ℤ◌, ◌-ℤ◌, ◌*ℤ◌}
use lib.Signed.{◌<ℤ◌, ◌≤ℤ◌}
use Rattle.std.specs.Prelude.{Option, Some, None, ◌&&◌, ◌||◌, int_lt, int_le, unsigned_abs}
use Rattle.std.specs.List.{AllByRecursion, concat, position}
use Rattle.std.specs.Ordering.{int_eq}
use Rattle.std.proofs.lemmas.Int.{ints}
use Rattle.std.proofs.lemmas.List.Elements.{All-from_recursion}
use Rattle.std.proofs.lemmas.Bool.{and_parts}
use Rattle.scad_base.proofs.Integers.{gap_of_less, gap_of_at_most, less_of_gap, at_most_of_less, sum_above}
use Rattle.scad_base.proofs.Lists.{AllByRecursion-append}
use Rattle.scad_base.proofs.Products.{positive_product}
use Rattle.scad_geom.specs.declared.point.Edge.{Edge}
use Rattle.scad_geom.specs.declared.level.Level.{Level}
use Rattle.scad_geom.specs.declared.level.LeafEdge.{LeafEdge}
use Rattle.scad_geom.specs.declared.shape.Shape.{Shape}
use Rattle.scad_geom.specs.Point.{Point, whole}
use Rattle.scad_geom.specs.Line.{low, high, rise, run, offset, x_at}
use Rattle.scad_geom.specs.Sign.{is_zero}
use Rattle.scad_geom.specs.Level.{level_of, IsAtMost}
use Rattle.scad_geom.specs.Heights.{heights, AreNeighbours}
use Rattle.scad_geom.specs.Shape.{is_in_by}
use Rattle.scad_geom.proofs.Ring.{ring, num, ◌⊕◌, ◌⊖◌, ◌⊗◌, v0, v1, v2, v3, v4, v5}
use Rattle.scad_geom.proofs.Signs.{at_least_mul, pos_left, positive_as, zero_true, one-mul, sub_mul}
use Rattle.scad_geom.proofs.Heights.{heights_positive, Reaches, at_most_chain}
use Rattle.scad_geom.proofs.Order.{back}
use Rattle.winding_laws.specs.Points.{IsOn}
use Rattle.winding_laws.proofs.Parts.{on_turned}
use Rattle.slice_events.specs.Levels.{IsRising, AreLevels}
use Rattle.slice_bundles.specs.Bundles.{no_edge, edge_at, AreRanked}
use Rattle.slice_bundles.proofs.Live.{IsLive, live_bundles}
use Rattle.slice_pieces.specs.declared.piece.Spot.{Spot}
use Rattle.slice_pieces.specs.declared.piece.Piece.{Piece}
use Rattle.slice_pieces.specs.Spots.{point_of}
use Rattle.slice_border.specs.Pieces.{spot_on, piece_between, bundle_piece, slab_pieces, is_flat_at, IsLeft, GoRight, AreStops, covers, stretch_piece, flat_pieces, AreLevelPieces}
use Rattle.slice_border.specs.OnEdges.{EndsLieOn, PiecesLieOnEdges}
use Rattle.slice_border.proofs.Middle.{size_of, half_point}
use Rattle.slice_border.proofs.Winding.{IsSpotAt, stops_at}
use Rattle.slice_border.proofs.Within.{by_weights, weights_add}
use Rattle.slice_border.proofs.Walk.{UpTo, at_first, at_next, neighbours_next}
use Rattle.slice_border.proofs.PieceNames.{found}
use Rattle.scad_base.proofs.Tests.{int_eq-true, int_le-true}

-- a spot stands for a point of an edge
abbrev Lies : Edge → Spot → Type 0
Lies e s = IsOn (whole e.a) (whole e.b) (point_of s)

abbrev LiesOnName : List LeafEdge → Piece → Type 0
LiesOnName es q = EndsLieOn (edge_at es q.edge) q

-- ---- where an edge that isn't flat passes a height
passing_x : (e : Edge) (l : Level) → pos 1 *ℤ x_at e l.n l.d ≡ ((high e).y *ℤ l.d -ℤ l.n) *ℤ (low e).x +ℤ
    (l.n -ℤ (low e).y *ℤ l.d) *ℤ (high e).x
unfolding x_at run offset rise
passing_x e l =
    one-mul _
    ∙ by_weights (low e).x (low e).y (high e).x (high e).y l.n l.d
    ∙ ring ((low e).x ∷ ((high e).y *ℤ l.d -ℤ l.n) ∷ (high e).x ∷ (l.n -ℤ (low e).y *ℤ l.d) ∷ [])
    (v0 ⊗ v1 ⊕ v2 ⊗ v3)
    (v1 ⊗ v0 ⊕ v3 ⊗ v2) refl

passing_y : (e : Edge) (l : Level) (r : ℤ) → r ≡ rise e
    → pos 1 *ℤ (l.n *ℤ r) ≡ ((high e).y *ℤ l.d -ℤ l.n) *ℤ (low e).y
    +ℤ (l.n -ℤ (low e).y *ℤ l.d) *ℤ (high e).y
unfolding rise
passing_y e l r h =
    ap (λ (z : ℤ). pos 1 *ℤ (l.n *ℤ z)) h
    ∙ ring (l.n ∷ l.d ∷ (low e).y ∷ (high e).y ∷ []) (num (pos 1) ⊗ (v0 ⊗ (v3 ⊖ v2)))
    ((v3 ⊗ v1 ⊖ v0) ⊗ v2 ⊕ (v0 ⊖ v2 ⊗ v1) ⊗ v3) refl

passing_d : (e : Edge) (l : Level) (r : ℤ) → r ≡ rise e
    → pos 1 *ℤ (l.d *ℤ r) ≡ ((high e).y *ℤ l.d -ℤ l.n) *ℤ pos 1 +ℤ
    (l.n -ℤ (low e).y *ℤ l.d) *ℤ pos 1
unfolding rise
passing_d e l r h =
    ap (λ (z : ℤ). pos 1 *ℤ (l.d *ℤ z)) h
    ∙ ring (l.n ∷ l.d ∷ (low e).y ∷ (high e).y ∷ []) (num (pos 1) ⊗ (v1 ⊗ (v3 ⊖ v2)))
    ((v3 ⊗ v1 ⊖ v0) ⊗ num (pos 1) ⊕
    (v0 ⊖ v2 ⊗ v1) ⊗ num (pos 1)) refl

from_low_to_high : (e : Edge) (p : Point) → IsOn (whole (low e)) (whole (high e)) p → IsOn (whole e.a) (whole e.b) p
unfolding low high
from_low_to_high e p h = by_test (int_lt e.b.y e.a.y) h
  where
    by_test : (t : Bool) → IsOn (whole (cond t e.b e.a)) (whole (cond t e.a e.b)) p → IsOn (whole e.a) (whole e.b) p
    by_test true h = on_turned (whole e.b) (whole e.a) p h
    by_test false h = h

passing_lies : (e : Edge) (l : Level) → pos 0 <ℤ l.d → pos 0 <ℤ rise e → ((low e).y *ℤ l.d) ≤ℤ l.n
    → l.n ≤ℤ ((high e).y *ℤ l.d) → Lies e (spot_on e l)
unfolding rise
passing_lies e l dl r h k =
    let size : pos (unsigned_abs (rise e)) ≡ rise e = size_of (rise e) r in
    from_low_to_high e (point_of (spot_on e l))
    (record {
      k = pos 1;
      s = (high e).y *ℤ l.d -ℤ l.n;
      t = l.n -ℤ (low e).y *ℤ l.d;
      positive = omega (arith, ints);
      first = gap_of_at_most l.n ((high e).y *ℤ l.d) k;
      second = gap_of_at_most ((low e).y *ℤ l.d) l.n h;
      some = positive_as _ _ (sym (weights_add (low e).y (high e).y l.n l.d))
          (positive_product ((high e).y -ℤ (low e).y) l.d r dl);
      x = passing_x e l;
      y = passing_y e l (pos (unsigned_abs (rise e))) size;
      d = passing_d e l (pos (unsigned_abs (rise e))) size;
    })

level_times : (y : ℤ) (l : Level) → IsAtMost (level_of y) l → (y *ℤ l.d) ≤ℤ l.n
level_times y l h = omega (arith, ints)

times_level : (y : ℤ) (l : Level) → IsAtMost l (level_of y) → l.n ≤ℤ (y *ℤ l.d)
times_level y l h = omega (arith, ints)

between_lies : (es : List LeafEdge) (v w : Bool) (s t : Spot) (k : ℕ) → Lies (edge_at es k) s
    → Lies (edge_at es k) t → AllByRecursion (LiesOnName es) (piece_between v w s t k)
between_lies es true true s t k a b = tt
between_lies es true false s t k a b = (record { from = a; to = b }, tt)
between_lies es false true s t k a b = (record { from = b; to = a }, tt)
between_lies es false false s t k a b = tt

-- ---- between two levels
module _ (es : List LeafEdge) (shape : Shape) where
  slab_lie : (l u : Level) → AreNeighbours es l u → (bs : List (List ℕ)) → AreRanked es l bs
      → AllByRecursion (IsLive es l u) (concat bs) → AllByRecursion (LiesOnName es) (slab_pieces es shape l u bs)
  slab_lie l u n [] r ls = tt
  slab_lie l u n ([] ∷ bs) r ls = absurd r.0
  slab_lie l u n ((k ∷ ks) ∷ bs) r ls =
      let e : Edge = edge_at es k in
      let reached : Reaches e l u = ls.0.reaches in
      let one : pos 0 <ℤ pos 1 = omega (arith, ints) in
      let o : IsAtMost l u = at_most_of_less (l.n *ℤ u.d) (u.n *ℤ l.d) n.in_order in
      AllByRecursion-append (LiesOnName es) (bundle_piece es shape l u (k ∷ ks)) (slab_pieces es shape l u bs)
      (between_lies es (is_in_by true false es shape (half_point es l u k))
      (is_in_by true true es shape (half_point es l u k)) (spot_on e l) (spot_on e u) k
      (passing_lies e l n.lower_divisor reached.rises (level_times (low e).y l reached.from)
      (times_level (high e).y l (at_most_chain l u (level_of (high e).y) n.lower_divisor n.upper_divisor one o
      reached.to)))
      (passing_lies e u n.upper_divisor reached.rises (level_times (low e).y u (at_most_chain (level_of (low e).y) l u
      one n.lower_divisor n.upper_divisor reached.from o)) (times_level (high e).y u reached.to)))
      (slab_lie l u n bs r.2 (back (IsLive es l u) (k ∷ ks) (concat bs) ls))

-- ---- on a level
-- a point from a to b on their height
module _ (e : Edge) (l : Level) (level : e.a.y ≡ e.b.y) (at : e.a.y *ℤ l.d ≡ l.n) where
  flat_lies : (s : Spot) → s.at ≡ l → pos 0 <ℤ (e.b.x -ℤ e.a.x) → pos 0 <ℤ (l.d *ℤ pos s.run)
      → (e.a.x *ℤ (l.d *ℤ pos s.run)) ≤ℤ s.x → s.x ≤ℤ (e.b.x *ℤ (l.d *ℤ pos s.run)) → Lies e s
  flat_lies s h long dp f t =
      let w : ℤ = l.d *ℤ pos s.run in
      subst (λ (m : Level). IsOn (whole e.a) (whole e.b)
      (record { x = s.x; y = m.n *ℤ pos s.run; d = m.d *ℤ pos s.run })) (sym h)
      (record {
        k = e.b.x -ℤ e.a.x;
        s = e.b.x *ℤ w -ℤ s.x;
        t = s.x -ℤ e.a.x *ℤ w;
        positive = long;
        first = gap_of_at_most s.x (e.b.x *ℤ w) t;
        second = gap_of_at_most (e.a.x *ℤ w) s.x f;
        some = positive_as _ _ (sym (weights_add e.a.x e.b.x s.x w)) (positive_product (e.b.x -ℤ e.a.x) w long dp);
        x = ring (e.a.x ∷ e.b.x ∷ w ∷ s.x ∷ []) ((v1 ⊖ v0) ⊗ v3)
            ((v1 ⊗ v2 ⊖ v3) ⊗ v0 ⊕ (v3 ⊖ v0 ⊗ v2) ⊗ v1) refl;
        y = height (e.b.x -ℤ e.a.x) l.n l.d (pos s.run) e.a.y at ∙ heights e.a.x e.b.x w s.x e.a.y e.b.y level;
        d = ring (e.a.x ∷ e.b.x ∷ w ∷ s.x ∷ []) ((v1 ⊖ v0) ⊗ v2)
            ((v1 ⊗ v2 ⊖ v3) ⊗ num (pos 1) ⊕ (v3 ⊖ v0 ⊗ v2) ⊗ num
            (pos 1)) refl;
      })
    where
      height : (k n d r y : ℤ) → y *ℤ d ≡ n → k *ℤ (n *ℤ r) ≡ (k *ℤ (d *ℤ r)) *ℤ y
      height k n d r y h = ap (λ (z : ℤ). k *ℤ (z *ℤ r)) (sym h)
          ∙ ring (k ∷ y ∷ d ∷ r ∷ []) (v0 ⊗ ((v1 ⊗ v2) ⊗ v3))
          ((v0 ⊗ (v2 ⊗ v3)) ⊗ v1) refl

      heights : (a b w x y z : ℤ) → y ≡ z
          → ((b -ℤ a) *ℤ w) *ℤ y ≡ (b *ℤ w -ℤ x) *ℤ y +ℤ (x -ℤ a *ℤ w) *ℤ z
      heights a b w x y z h =
          ring (a ∷ b ∷ w ∷ x ∷ y ∷ []) (((v1 ⊖ v0) ⊗ v2) ⊗ v4)
          ((v1 ⊗ v2 ⊖ v3) ⊗ v4 ⊕ (v3 ⊖ v0 ⊗ v2) ⊗ v4) refl
          ∙ ap (λ (u : ℤ). (b *ℤ w -ℤ x) *ℤ y +ℤ (x -ℤ a *ℤ w) *ℤ u) h

flat_ends : (e : Edge) → rise e ≡ pos 0 → e.a.y ≡ e.b.y
unfolding rise low high
flat_ends e h = by_test (int_lt e.b.y e.a.y) h
  where
    by_test : (t : Bool) → (cond t e.a e.b).y -ℤ (cond t e.b e.a).y ≡ pos 0 → e.a.y ≡ e.b.y
    by_test true h = omega (arith, ints)
    by_test false h = omega (arith, ints)

-- where s lies left of t and t not right of z, s lies left of z
left_on : (l : Level) (s t : Spot) (z : ℤ) → pos 0 <ℤ pos s.run → pos 0 <ℤ pos t.run → IsLeft s t
    → t.x ≤ℤ (z *ℤ (l.d *ℤ pos t.run)) → s.x <ℤ (z *ℤ (l.d *ℤ pos s.run))
left_on l s t z hs ht o h =
    less_of_gap s.x (z *ℤ (l.d *ℤ pos s.run))
    (pos_left (z *ℤ (l.d *ℤ pos s.run) -ℤ s.x) (pos t.run) ht
    (positive_as _ _ (steps s.x (pos s.run) t.x (pos t.run) z l.d)
    (sum_above (t.x *ℤ pos s.run -ℤ s.x *ℤ pos t.run) ((z *ℤ (l.d *ℤ pos t.run) -ℤ t.x) *ℤ pos s.run)
    (gap_of_less (s.x *ℤ pos t.run) (t.x *ℤ pos s.run) o)
    (at_least_mul (z *ℤ (l.d *ℤ pos t.run) -ℤ t.x) (pos s.run)
    (gap_of_at_most t.x (z *ℤ (l.d *ℤ pos t.run)) h)
    (at_most_of_less (pos 0) (pos s.run) hs)))))
  where
    steps : (sx sr tx tr z d : ℤ) → (tx *ℤ sr -ℤ sx *ℤ tr) +ℤ (z *ℤ (d *ℤ tr) -ℤ tx) *ℤ sr
        ≡ (z *ℤ (d *ℤ sr) -ℤ sx) *ℤ
        tr
    steps sx sr tx tr z d = ring (sx ∷ sr ∷ tx ∷ tr ∷ z ∷ d ∷ [])
        ((v2 ⊗ v1 ⊖ v0 ⊗ v3) ⊕ (v4 ⊗ (v5 ⊗ v3) ⊖ v2) ⊗ v1)
        ((v4 ⊗ (v5 ⊗ v1) ⊖ v0) ⊗ v3) refl

-- where t lies right of s and s not left of z, t lies right of z
right_on : (l : Level) (s t : Spot) (z : ℤ) → pos 0 <ℤ pos s.run → pos 0 <ℤ pos t.run → IsLeft s t
    → (z *ℤ (l.d *ℤ pos s.run)) ≤ℤ s.x → (z *ℤ (l.d *ℤ pos t.run)) <ℤ t.x
right_on l s t z hs ht o h =
    less_of_gap (z *ℤ (l.d *ℤ pos t.run)) t.x
    (pos_left (t.x -ℤ z *ℤ (l.d *ℤ pos t.run)) (pos s.run) hs
    (positive_as _ _ (steps s.x (pos s.run) t.x (pos t.run) z l.d)
    (sum_above (t.x *ℤ pos s.run -ℤ s.x *ℤ pos t.run) ((s.x -ℤ z *ℤ (l.d *ℤ pos s.run)) *ℤ pos t.run)
    (gap_of_less (s.x *ℤ pos t.run) (t.x *ℤ pos s.run) o)
    (at_least_mul (s.x -ℤ z *ℤ (l.d *ℤ pos s.run)) (pos t.run)
    (gap_of_at_most (z *ℤ (l.d *ℤ pos s.run)) s.x h)
    (at_most_of_less (pos 0) (pos t.run) ht)))))
  where
    steps : (sx sr tx tr z d : ℤ) → (tx *ℤ sr -ℤ sx *ℤ tr) +ℤ (sx -ℤ z *ℤ (d *ℤ sr)) *ℤ tr
        ≡ (tx -ℤ z *ℤ (d *ℤ tr)) *ℤ
        sr
    steps sx sr tx tr z d = ring (sx ∷ sr ∷ tx ∷ tr ∷ z ∷ d ∷ [])
        ((v2 ⊗ v1 ⊖ v0 ⊗ v3) ⊕ (v0 ⊖ v4 ⊗ (v5 ⊗ v1)) ⊗ v3)
        ((v2 ⊖ v4 ⊗ (v5 ⊗ v3)) ⊗ v1) refl

module _ (l : Level) (dl : pos 0 <ℤ l.d) (s t : Spot) (hs : IsSpotAt l s) (ht : IsSpotAt l t) (o : IsLeft s t) where
  -- an edge from the left of the stretch to its right
  spans : (e : Edge) → e.a.y ≡ e.b.y → e.a.y *ℤ l.d ≡ l.n → (e.a.x *ℤ (l.d *ℤ pos s.run)) ≤ℤ s.x
      → t.x ≤ℤ (e.b.x *ℤ (l.d *ℤ pos t.run)) → Lies e s × Lies e t
  spans e level at f g =
      let ds : pos 0 <ℤ (l.d *ℤ pos s.run) = positive_product l.d (pos s.run) dl hs.runs in
      let dt : pos 0 <ℤ (l.d *ℤ pos t.run) = positive_product l.d (pos t.run) dl ht.runs in
      let sb = left_on l s t e.b.x hs.runs ht.runs o g in
      let ta = right_on l s t e.a.x hs.runs ht.runs o f in
      let long : pos 0 <ℤ (e.b.x -ℤ e.a.x) = pos_left (e.b.x -ℤ e.a.x) (l.d *ℤ pos s.run) ds
      (positive_as _ _ (sym (sub_mul e.b.x e.a.x (l.d *ℤ pos s.run))) (gap_of_less (e.a.x *ℤ (l.d *ℤ pos s.run))
      (e.b.x *ℤ (l.d *ℤ pos s.run)) (at_most_less _ _ _ f sb))) in (
        flat_lies e l level at s hs.at long ds f (at_most_of_less s.x (e.b.x *ℤ (l.d *ℤ pos s.run)) sb),
        flat_lies e l level at t ht.at long dt (at_most_of_less (e.a.x *ℤ (l.d *ℤ pos t.run)) t.x ta) g,
      )
    where
      at_most_less : (x y z : ℤ) → x ≤ℤ y → y <ℤ z → x <ℤ z
      at_most_less x y z h k = omega (arith, ints)

  covered : (e : LeafEdge) → covers s t e ≡ true → Lies e.edge s × Lies e.edge t
  covered e h = by_ways _ _ (and_parts (is_flat_at e.edge s.at) _ h).1 refl refl
    where
      flat : is_flat_at e.edge s.at ≡ true
      flat = (and_parts (is_flat_at e.edge s.at) _ h).0

      level : e.edge.a.y ≡ e.edge.b.y
      level = flat_ends e.edge (zero_true (rise e.edge) (and_parts (is_zero (rise e.edge)) _ flat).0)

      at : e.edge.a.y *ℤ l.d ≡ l.n
      at = subst (λ (m : Level). e.edge.a.y *ℤ m.d ≡ m.n) hs.at (int_eq-true (e.edge.a.y *ℤ s.at.d) s.at.n
          (and_parts (is_zero (rise e.edge)) (int_eq (e.edge.a.y *ℤ s.at.d) s.at.n) flat).1)

      first : (x y : ℤ) → (int_le (x *ℤ (s.at.d *ℤ pos s.run)) s.x
          && int_le t.x (y *ℤ (t.at.d *ℤ pos t.run))) ≡ true
          → (x *ℤ (l.d *ℤ pos s.run)) ≤ℤ s.x
      first x y w = subst (λ (m : Level). (x *ℤ (m.d *ℤ pos s.run)) ≤ℤ s.x) hs.at
          (int_le-true (x *ℤ (s.at.d *ℤ pos s.run)) s.x
          (and_parts (int_le (x *ℤ (s.at.d *ℤ pos s.run)) s.x) _ w).0)

      last : (x y : ℤ) → (int_le (x *ℤ (s.at.d *ℤ pos s.run)) s.x
          && int_le t.x (y *ℤ (t.at.d *ℤ pos t.run))) ≡ true
          → t.x ≤ℤ (y *ℤ (l.d *ℤ pos t.run))
      last x y w = subst (λ (m : Level). t.x ≤ℤ (y *ℤ (m.d *ℤ pos t.run))) ht.at
          (int_le-true t.x (y *ℤ (t.at.d *ℤ pos t.run)) (and_parts (int_le (x *ℤ (s.at.d *ℤ pos s.run)) s.x)
          (int_le t.x (y *ℤ (t.at.d *ℤ pos t.run))) w).1)

      rightwards : (int_le (e.edge.a.x *ℤ (s.at.d *ℤ pos s.run)) s.x && int_le t.x
          (e.edge.b.x *ℤ (t.at.d *ℤ pos t.run))) ≡ true → Lies e.edge s × Lies e.edge t
      rightwards w = spans e.edge level at (first e.edge.a.x e.edge.b.x w) (last e.edge.a.x e.edge.b.x w)

      leftwards : (int_le (e.edge.b.x *ℤ (s.at.d *ℤ pos s.run)) s.x
          && int_le t.x (e.edge.a.x *ℤ (t.at.d *ℤ pos t.run)))
          ≡ true → Lies e.edge s × Lies e.edge t
      leftwards w =
          let r = spans (record { a = e.edge.b; b = e.edge.a }) (sym level) (ap (λ (y : ℤ). y *ℤ l.d) (sym level) ∙ at)
          (first e.edge.b.x e.edge.a.x w) (last e.edge.b.x e.edge.a.x w) in (
            on_turned (whole e.edge.b) (whole e.edge.a) (point_of s) r.0,
            on_turned (whole e.edge.b) (whole e.edge.a)
                (point_of t) r.1,
          )

      by_ways : (a b : Bool) → (a || b) ≡ true
          → a ≡ (int_le (e.edge.a.x *ℤ (s.at.d *ℤ pos s.run)) s.x
          && int_le t.x (e.edge.b.x *ℤ (t.at.d *ℤ pos t.run)))
          → b ≡ (int_le (e.edge.b.x *ℤ (s.at.d *ℤ pos s.run)) s.x
          && int_le t.x (e.edge.a.x *ℤ (t.at.d *ℤ pos t.run)))
          → Lies e.edge s × Lies e.edge t
      by_ways true b h f g = rightwards (sym f)
      by_ways false b h f g = leftwards (sym g ∙ h)

module _ (es : List LeafEdge) (shape : Shape) (l : Level) (dl : pos 0 <ℤ l.d) where
  stretch_lies : (s t : Spot) → IsSpotAt l s → IsSpotAt l t → IsLeft s t → (name : Option ℕ)
      → position (covers s t) es ≡ name → AllByRecursion (LiesOnName es) (stretch_piece es shape s t name)
  stretch_lies s t hs ht o None h = tt
  stretch_lies s t hs ht o (Some k) h =
      let f = found (covers s t) es k h in
      let r = covered l dl s t hs ht o (get_or es k no_edge) f.1 in
      between_lies es (is_in_by true true es shape (point_of s)) (is_in_by false true es shape (point_of s)) s t k r.0
      r.1

  walk_lie : (s : Spot) (ss : List Spot) → AllByRecursion (IsSpotAt l) (s ∷ ss) → GoRight (s ∷ ss)
      → AllByRecursion (LiesOnName es) (flat_pieces es shape (s ∷ ss))
  walk_lie s [] hs r = tt
  walk_lie s (t ∷ ss) hs r =
      AllByRecursion-append (LiesOnName es) (stretch_piece es shape s t (position (covers s t) es))
      (flat_pieces es shape (t ∷ ss))
      (stretch_lies s t hs.0 hs.1.0 r.0 (position (covers s t) es) refl) (walk_lie t ss hs.1 r.1)

  flat_lie : (stops : List Spot) → AreStops es l stops → AllByRecursion (LiesOnName es) (flat_pieces es shape stops)
  flat_lie [] a = tt
  flat_lie (s ∷ ss) a = walk_lie s ss (stops_at es l (s ∷ ss) a) a.rightwards

-- ---- level by level
module _ (es : List LeafEdge) (shape : Shape) where
  level_lie : (l : Level) (ls : List Level) (pieces : List Piece) → AllByRecursion (λ (l : Level). pos 0 <ℤ l.d)
      (l ∷ ls) → IsRising (l ∷ ls) → AllByRecursion (UpTo l ls) (heights es)
      → AreLevelPieces es shape (l ∷ ls) pieces → AllByRecursion (LiesOnName es) pieces
  level_lie l [] pieces d r h a = subst (AllByRecursion (LiesOnName es)) (sym a.2) (flat_lie es shape l d.0 a.0 a.1)
  level_lie l (u ∷ ls) pieces d r h a =
      subst (AllByRecursion (LiesOnName es)) (sym a.6)
      (AllByRecursion-append (LiesOnName es) (flat_pieces es shape a.0 ++ slab_pieces es shape l u a.1) a.2
      (AllByRecursion-append (LiesOnName es) (flat_pieces es shape a.0) (slab_pieces es shape l u a.1)
      (flat_lie es shape l d.0 a.0 a.3) (slab_lie es shape l u (neighbours_next es l u ls d r h) a.1 a.4.ranked
      (live_bundles es l u a.1 a.4)))
      (level_lie u ls a.2 d.1 r.1 (at_next l u ls (heights es) d.0 d.1.0 (heights_positive es) r.0 h) a.5))

  by_levels : (ls : List Level) (pieces : List Piece) → AreLevels es ls → AreLevelPieces es shape ls pieces
      → AllByRecursion (LiesOnName es) pieces
  by_levels [] pieces v a = subst (AllByRecursion (LiesOnName es)) (sym a) tt
  by_levels (l ∷ ls) pieces v a = level_lie l ls pieces v.divisors v.rising (at_first l ls (heights es) v.complete) a

pub pieces_lie_on_edges : PiecesLieOnEdges
pieces_lie_on_edges es shape pieces h = All-from_recursion (LiesOnName es) pieces (by_levels es shape h.levels pieces
    h.are_levels h.are_pieces)
