-- Each piece has a length and lies along the edge of its name.
use Rattle.std.proofs.Common.{◌≡◌, ℕ, zero, suc, ◌+◌, ◌<◌, Bool, true, false, cond, List, [], ◌∷◌, ◌++◌, length, get_or, refl, sym, ◌∙◌, arith, subst}
use Rattle.std.proofs.lemmas.Bool.{and_parts, false_from_ne_true}
use lib.IntN.{ℤ, pos, ◌+ℤ◌, ◌-ℤ◌, ◌*ℤ◌}
use lib.Signed.{◌<ℤ◌}
use Rattle.std.specs.Prelude.{Option, Some, None, ◌&&◌, ◌||◌, int_lt, int_le, unsigned_abs}
use Rattle.std.specs.List.{AllByRecursion, concat, position, position_from}
use Rattle.std.specs.Ordering.{int_eq}
use Rattle.std.proofs.lemmas.Int.{ints}
use Rattle.std.proofs.lemmas.Iterator.Adapters.{position_from-zero}
use Rattle.std.proofs.lemmas.List.Elements.{All-from_recursion}
use Rattle.scad_geom.specs.declared.point.Edge.{Edge}
use Rattle.scad_geom.specs.declared.level.Level.{Level}
use Rattle.scad_geom.specs.declared.level.LeafEdge.{LeafEdge}
use Rattle.scad_geom.specs.declared.shape.Shape.{Shape}
use Rattle.scad_geom.specs.Point.{Point, whole, is_same_point}
use Rattle.scad_geom.specs.Line.{low, high, rise, run, offset, x_at, left_of}
use Rattle.scad_geom.specs.Sign.{is_zero}
use Rattle.scad_geom.specs.Heights.{heights, AreNeighbours}
use Rattle.scad_geom.specs.Shape.{is_in_by}
use Rattle.scad_geom.proofs.Ring.{ring, num, ◌⊕◌, ◌⊖◌, ◌⊗◌, v0, v1, v2, v3, v4, v5}
use Rattle.scad_base.proofs.Products.{positive_product}
use Rattle.scad_geom.proofs.Signs.{at_least_mul, zero_true, mul-one}
use Rattle.scad_geom.proofs.Points.{same_height, same_across}
use Rattle.scad_geom.proofs.Heights.{heights_positive}
use Rattle.scad_geom.proofs.Order.{back}
use Rattle.slice_events.specs.Levels.{IsRising, AreLevels}
use Rattle.slice_bundles.specs.Bundles.{no_edge, edge_at, AreRanked}
use Rattle.slice_pieces.specs.declared.piece.Spot.{Spot}
use Rattle.slice_pieces.specs.declared.piece.Piece.{Piece}
use Rattle.slice_pieces.specs.Spots.{point_of}
use Rattle.slice_pieces.specs.Inside.{IsBelow, IsLeftOf}
use Rattle.slice_pieces.specs.Naming.{IsOnLine, LiesAlong, HasLength, AreNamed}
use Rattle.scad_base.proofs.Lists.{AllByRecursion-append}
use Rattle.slice_border.specs.Pieces.{spot_on, piece_between, bundle_piece, slab_pieces, is_flat_at, IsLeft, GoRight, AreStops, covers, stretch_piece, flat_pieces, AreLevelPieces, ArePieces}
use Rattle.slice_border.proofs.Passing.{IsLive, live_bundles}
use Rattle.scad_base.proofs.Integers.{gap_of_less, less_of_gap, gap_of_at_most, at_most_of_less}
use Rattle.slice_border.proofs.Middle.{size_of, half_point, on_own}
use Rattle.slice_border.proofs.Winding.{IsSpotAt, stops_at}
use Rattle.slice_border.proofs.Walk.{UpTo, at_first, at_next, neighbours_next}
use Rattle.slice_border.proofs.BalanceTurns.{gap}
use Rattle.slice_border.proofs.BalanceFlat.{spot_gap}
use Rattle.slice_border.proofs.BorderPoints.{rises}
use Rattle.slice_border.proofs.Apart.{pieces_are_apart}
use Rattle.scad_base.proofs.Tests.{int_le-true, int_eq-true}

less_not_equal : (x y : ℤ) → x <ℤ y → x ≡ y → ⊥
less_not_equal x y h k = omega (arith, ints)

below_differ : (p q : Point) → IsBelow p q → (is_same_point p q ≡ false) × (is_same_point q p ≡ false)
below_differ p q h = (
  false_from_ne_true (is_same_point p q) (λ e. less_not_equal (p.y *ℤ q.d) (q.y *ℤ p.d) h (same_height p q e)),
  false_from_ne_true (is_same_point q p) (λ e. less_not_equal (p.y *ℤ q.d) (q.y *ℤ p.d) h
      (sym (same_height q p e))),
)

left_differ : (p q : Point) → IsLeftOf p q → (is_same_point p q ≡ false) × (is_same_point q p ≡ false)
left_differ p q h = (
  false_from_ne_true (is_same_point p q) (λ e. less_not_equal (p.x *ℤ q.d) (q.x *ℤ p.d) h (same_across p q e)),
  false_from_ne_true (is_same_point q p) (λ e. less_not_equal (p.x *ℤ q.d) (q.x *ℤ p.d) h
      (sym (same_across q p e))),
)

-- ---- one piece
-- its name is there, it has a length and lies along the edge of its name
pub record IsPart (es : List LeafEdge) (q : Piece) : Type 0 where
  pub there : q.edge < length es
  pub some : HasLength q
  pub along : LiesAlong (edge_at es q.edge) q

between_part : (es : List LeafEdge) (v w : Bool) (s t : Spot) (k : ℕ) → k < length es
    → is_same_point (point_of s) (point_of t) ≡ false → is_same_point (point_of t) (point_of s) ≡ false
    → is_same_point (whole (edge_at es k).a) (whole (edge_at es k).b) ≡ false
    → IsOnLine (edge_at es k) (point_of s) → IsOnLine (edge_at es k) (point_of t)
    → AllByRecursion (IsPart es) (piece_between v w s t k)
between_part es true true s t k o d d' e a b = tt
between_part es true false s t k o d d' e a b =
    (record { there = o; some = d; along = record { length = e; from = a; to = b } }, tt)
between_part es false true s t k o d d' e a b =
    (record { there = o; some = d'; along = record { length = e; from = b; to = a } }, tt)
between_part es false false s t k o d d' e a b = tt

-- ---- between two levels
same_whole_height : (a b : ℤ) → a *ℤ pos 1 ≡ b *ℤ pos 1 → a ≡ b
same_whole_height a b h = sym (mul-one a) ∙ h ∙ mul-one b

level_rise : (e : Edge) → e.a.y ≡ e.b.y → rise e ≡ pos 0
unfolding rise low high
level_rise e h = by_test (int_lt e.b.y e.a.y)
  where
    by_test : (t : Bool) → (cond t e.a e.b).y -ℤ (cond t e.b e.a).y ≡ pos 0
    by_test true = omega (arith, ints)
    by_test false = omega (arith, ints)

rising_length : (e : Edge) → pos 0 <ℤ rise e → is_same_point (whole e.a) (whole e.b) ≡ false
rising_length e r = false_from_ne_true (is_same_point (whole e.a) (whole e.b)) (λ h.
    less_not_equal (pos 0) (rise e) r
    (sym (level_rise e (same_whole_height e.a.y e.b.y (same_height (whole e.a) (whole e.b) h)))))

module _ (es : List LeafEdge) (shape : Shape) where
  slab_parts : (l u : Level) → AreNeighbours es l u → (bs : List (List ℕ)) → AreRanked es l bs
      → AllByRecursion (IsLive es l u) (concat bs) → AllByRecursion (IsPart es) (slab_pieces es shape l u bs)
  slab_parts l u n [] r ls = tt
  slab_parts l u n ([] ∷ bs) r ls = absurd r.0
  slab_parts l u n ((k ∷ ks) ∷ bs) r ls =
      let e : Edge = edge_at es k in
      let up = ls.0.reaches.rises in
      let z = below_differ (point_of (spot_on e l)) (point_of (spot_on e u)) (rises es shape l u n k ls.0) in
      AllByRecursion-append (IsPart es) (bundle_piece es shape l u (k ∷ ks)) (slab_pieces es shape l u bs)
      (between_part es (is_in_by true false es shape (half_point es l u k))
      (is_in_by true true es shape (half_point es l u k)) (spot_on e l) (spot_on e u) k ls.0.there z.0 z.1
      (rising_length e up) (on_own e l (pos (unsigned_abs (rise e))) (size_of (rise e) up))
      (on_own e u (pos (unsigned_abs (rise e))) (size_of (rise e) up)))
      (slab_parts l u n bs r.2 (back (IsLive es l u) (k ∷ ks) (concat bs) ls))

-- ---- on a level
found_from : (p : LeafEdge → Bool) (i : ℕ) (es : List LeafEdge) (n : ℕ) → position_from p i es ≡ Some n
    → (j : ℕ) × (n ≡ i + j) × (j < length es) × (p (get_or es j no_edge) ≡ true)
found_from p i [] n h = cc
found_from p i (e ∷ es) n h = by_test (p e) refl h (found_from p (i + 1) es n)
  where
    first : (a b : ℕ) → Some a ≡ Some b → a ≡ b
    first a b h = cc

    by_test : (t : Bool) → p e ≡ t → cond t (Some i) (position_from p (i + 1) es) ≡ Some n
        → (position_from p (i + 1) es ≡ Some n → (j : ℕ) × (n ≡ i + 1 + j) × (j < length es)
        × (p (get_or es j no_edge) ≡ true))
        → (j : ℕ) × (n ≡ i + j) × (j < length (e ∷ es)) × (p (get_or (e ∷ es) j no_edge) ≡ true)
    by_test true q k f = (zero, (let z = first i n k in omega arith), omega arith, q)
    by_test false q k f = let r = f k in (suc r.0, omega arith, omega arith, r.3)

pub found : (p : LeafEdge → Bool) (es : List LeafEdge) (n : ℕ) → position p es ≡ Some n → (n < length es)
    × (p (get_or es n no_edge) ≡ true)
found p es n h =
    let r = found_from p 0 es n (sym (position_from-zero p es) ∙ h) in
    let e : r.0 ≡ n = omega arith in
    (omega arith, subst (λ (j : ℕ). p (get_or es j no_edge) ≡ true) e r.3)

flat_low : (e : Edge) → rise e ≡ pos 0 → (low e).y ≡ e.a.y
unfolding rise low high
flat_low e h = by_test (int_lt e.b.y e.a.y) h
  where
    by_test : (t : Bool) → (cond t e.a e.b).y -ℤ (cond t e.b e.a).y ≡ pos 0 → (cond t e.b e.a).y ≡ e.a.y
    by_test true h = omega (arith, ints)
    by_test false h = refl

-- a flat edge's line at its height
flat_line : (u y d x r s : ℤ) → u *ℤ ((y *ℤ d) *ℤ r) +ℤ (pos 0 *ℤ x -ℤ u *ℤ y) *ℤ (d *ℤ r) -ℤ
    pos 0 *ℤ s ≡ pos 0
flat_line u y d x r s = ring (u ∷ y ∷ d ∷ x ∷ r ∷ s ∷ [])
    (v0 ⊗ ((v1 ⊗ v2) ⊗ v4) ⊕ (num (pos 0) ⊗ v3 ⊖ v0 ⊗ v1) ⊗
    (v2 ⊗ v4) ⊖ num (pos 0) ⊗ v5) (num (pos 0)) refl

flat_zero : (u q x y s n d r h : ℤ) → q ≡ pos 0 → y ≡ h → n ≡ h *ℤ d
    → u *ℤ (n *ℤ r) +ℤ (q *ℤ x -ℤ u *ℤ y) *ℤ (d *ℤ r)
    -ℤ q *ℤ s ≡ pos 0
flat_zero u q x y s n d r h a b c = rw (a, b, c) (flat_line u h d x r s)

on_flat : (e : Edge) (l : Level) (s : Spot) → s.at ≡ l → rise e ≡ pos 0 → e.a.y *ℤ l.d ≡ l.n
    → IsOnLine e (point_of s)
unfolding left_of x_at offset
on_flat e l s q r h =
    let n : e.a.y *ℤ s.at.d ≡ s.at.n = subst (λ (m : Level). e.a.y *ℤ m.d ≡ m.n) (sym q) h in
    flat_zero (run e) (rise e) (low e).x (low e).y s.x s.at.n s.at.d (pos s.run) e.a.y r (flat_low e r) (sym n)

-- an edge that covers a stretch is flat and spans it
spanned : (sx sr tx tr z k : ℤ) → (sx -ℤ z *ℤ (k *ℤ sr)) *ℤ tr +ℤ (z *ℤ (k *ℤ tr) -ℤ tx) *ℤ sr
    ≡ sx *ℤ tr -ℤ tx *ℤ sr
spanned sx sr tx tr z k = ring (sx ∷ sr ∷ tx ∷ tr ∷ z ∷ k ∷ [])
    ((v0 ⊖ v4 ⊗ (v5 ⊗ v1)) ⊗ v3 ⊕ (v4 ⊗ (v5 ⊗ v3) ⊖ v2) ⊗
    v1) (v0 ⊗ v3 ⊖ v2 ⊗ v1) refl

no_room : (l : Level) (s t : Spot) (z : ℤ) → IsSpotAt l s → IsSpotAt l t → IsLeft s t
    → int_le (z *ℤ (l.d *ℤ pos s.run))
    s.x ≡ true → int_le t.x (z *ℤ (l.d *ℤ pos t.run)) ≡ true → ⊥
no_room l s t z hs ht o h k =
    let a = at_least_mul (s.x -ℤ z *ℤ (l.d *ℤ pos s.run)) (pos t.run) (gap_of_at_most (z *ℤ (l.d *ℤ pos s.run)) s.x
    (int_le-true (z *ℤ (l.d *ℤ pos s.run)) s.x h)) (at_most_of_less (pos 0) (pos t.run) ht.runs) in
    let b = at_least_mul (z *ℤ (l.d *ℤ pos t.run) -ℤ t.x) (pos s.run) (gap_of_at_most t.x (z *ℤ (l.d *ℤ pos t.run))
    (int_le-true t.x (z *ℤ (l.d *ℤ pos t.run)) k)) (at_most_of_less (pos 0) (pos s.run) hs.runs) in
    let c = spanned s.x (pos s.run) t.x (pos t.run) z l.d in
    omega (arith, ints)

spans_apart : (l : Level) (s t : Spot) (x y : ℤ) → IsSpotAt l s → IsSpotAt l t → IsLeft s t
    → (int_le (x *ℤ (s.at.d *ℤ pos s.run)) s.x && int_le t.x (y *ℤ (t.at.d *ℤ pos t.run))) ≡ true
    → x ≡ y → ⊥
spans_apart l s t x y hs ht o h e =
    let a = (and_parts (int_le (x *ℤ (s.at.d *ℤ pos s.run)) s.x) _ h).0 in
    let b = (and_parts (int_le (x *ℤ (s.at.d *ℤ pos s.run)) s.x) (int_le t.x (y *ℤ (t.at.d *ℤ pos t.run))) h).1 in
    no_room l s t y hs ht o
    (subst (λ (z : ℤ). int_le (z *ℤ (l.d *ℤ pos s.run)) s.x ≡ true) e
    (subst (λ (m : Level). int_le (x *ℤ (m.d *ℤ pos s.run)) s.x ≡ true) hs.at a))
    (subst (λ (m : Level). int_le t.x (y *ℤ (m.d *ℤ pos t.run)) ≡ true) ht.at b)

covering_length : (l : Level) (s t : Spot) (e : LeafEdge) → IsSpotAt l s → IsSpotAt l t → IsLeft s t
    → covers s t e ≡ true → is_same_point (whole e.edge.a) (whole e.edge.b) ≡ false
covering_length l s t e hs ht o h = false_from_ne_true (is_same_point (whole e.edge.a) (whole e.edge.b)) (λ k.
    let x : e.edge.a.x ≡ e.edge.b.x = same_whole_height e.edge.a.x e.edge.b.x
    (same_across (whole e.edge.a) (whole e.edge.b) k) in
    by_ways _ _ (and_parts (is_flat_at e.edge s.at) _ h).1
    (λ way. spans_apart l s t e.edge.a.x e.edge.b.x hs ht o way x)
    (λ way. spans_apart l s t e.edge.b.x e.edge.a.x hs ht
    o way (sym x)))
  where
    by_ways : (a b : Bool) → (a || b) ≡ true → (a ≡ true → ⊥) → (b ≡ true → ⊥) → ⊥
    by_ways true b h f g = f refl
    by_ways false b h f g = g h

pub stop_left : (l : Level) (s t : Spot) → pos 0 <ℤ l.d → IsSpotAt l s → IsSpotAt l t → IsLeft s t
    → IsLeftOf (point_of s) (point_of t)
stop_left l s t dl hs ht o =
    let m = positive_product (t.x *ℤ pos s.run -ℤ s.x *ℤ pos t.run) l.d (gap_of_less (s.x *ℤ pos t.run)
    (t.x *ℤ pos s.run) o) dl in
    let g : pos 0 <ℤ gap (point_of s) (point_of t) = rw (spot_gap l s t hs ht) m in
    less_of_gap (s.x *ℤ (t.at.d *ℤ pos t.run)) (t.x *ℤ (s.at.d *ℤ pos s.run)) g

module _ (es : List LeafEdge) (shape : Shape) (l : Level) (dl : pos 0 <ℤ l.d) where
  stretch_part : (s t : Spot) → IsSpotAt l s → IsSpotAt l t → IsLeft s t → (name : Option ℕ)
      → position (covers s t) es ≡ name → AllByRecursion (IsPart es) (stretch_piece es shape s t name)
  stretch_part s t hs ht o None h = tt
  stretch_part s t hs ht o (Some k) h =
      let f = found (covers s t) es k h in
      let e : LeafEdge = get_or es k no_edge in
      let flat = (and_parts (is_flat_at e.edge s.at) _ f.1).0 in
      let r = zero_true (rise e.edge) (and_parts (is_zero (rise e.edge)) _ flat).0 in
      let n = int_eq-true (e.edge.a.y *ℤ s.at.d) s.at.n (and_parts (is_zero (rise e.edge))
      (int_eq (e.edge.a.y *ℤ s.at.d) s.at.n) flat).1 in
      let n' : e.edge.a.y *ℤ l.d ≡ l.n = subst (λ (m : Level). e.edge.a.y *ℤ m.d ≡ m.n) hs.at n in
      let z = left_differ (point_of s) (point_of t) (stop_left l s t dl hs ht o) in
      between_part es (is_in_by true true es shape (point_of s)) (is_in_by false true es shape (point_of s)) s t k f.0
      z.0 z.1
      (covering_length l s t e hs ht o f.1) (on_flat e.edge l s hs.at r n') (on_flat e.edge l t ht.at r n')

  walk_parts : (s : Spot) (ss : List Spot) → AllByRecursion (IsSpotAt l) (s ∷ ss) → GoRight (s ∷ ss)
      → AllByRecursion (IsPart es) (flat_pieces es shape (s ∷ ss))
  walk_parts s [] hs r = tt
  walk_parts s (t ∷ ss) hs r =
      AllByRecursion-append (IsPart es) (stretch_piece es shape s t (position (covers s t) es))
      (flat_pieces es shape (t ∷ ss))
      (stretch_part s t hs.0 hs.1.0 r.0 (position (covers s t) es) refl) (walk_parts t ss hs.1 r.1)

  flat_parts : (stops : List Spot) → AreStops es l stops → AllByRecursion (IsPart es) (flat_pieces es shape stops)
  flat_parts [] a = tt
  flat_parts (s ∷ ss) a = walk_parts s ss (stops_at es l (s ∷ ss) a) a.rightwards

-- ---- level by level
module _ (es : List LeafEdge) (shape : Shape) where
  level_parts : (l : Level) (ls : List Level) (pieces : List Piece) → AllByRecursion (λ (l : Level). pos 0 <ℤ l.d)
      (l ∷ ls) → IsRising (l ∷ ls) → AllByRecursion (UpTo l ls) (heights es)
      → AreLevelPieces es shape (l ∷ ls) pieces → AllByRecursion (IsPart es) pieces
  level_parts l [] pieces d r h a = subst (AllByRecursion (IsPart es)) (sym a.2) (flat_parts es shape l d.0 a.0 a.1)
  level_parts l (u ∷ ls) pieces d r h a =
      subst (AllByRecursion (IsPart es)) (sym a.6)
      (AllByRecursion-append (IsPart es) (flat_pieces es shape a.0 ++ slab_pieces es shape l u a.1) a.2
      (AllByRecursion-append (IsPart es) (flat_pieces es shape a.0) (slab_pieces es shape l u a.1)
      (flat_parts es shape l d.0 a.0 a.3) (slab_parts es shape l u (neighbours_next es l u ls d r h) a.1 a.4.ranked
      (live_bundles es l u a.1 a.4)))
      (level_parts u ls a.2 d.1 r.1 (at_next l u ls (heights es) d.0 d.1.0 (heights_positive es) r.0 h) a.5))

  by_levels : (ls : List Level) (pieces : List Piece) → AreLevels es ls → AreLevelPieces es shape ls pieces
      → AllByRecursion (IsPart es) pieces
  by_levels [] pieces v a = subst (AllByRecursion (IsPart es)) (sym a) tt
  by_levels (l ∷ ls) pieces v a = level_parts l ls pieces v.divisors v.rising (at_first l ls (heights es) v.complete)
      a

each_part : (es : List LeafEdge) (P : Piece → Type 0) → ((q : Piece) → IsPart es q → P q) → (qs : List Piece)
    → AllByRecursion (IsPart es) qs → AllByRecursion P qs
each_part es P f [] h = tt
each_part es P f (q ∷ qs) h = (f q h.0, each_part es P f qs h.1)

pub pieces_are_named : (es : List LeafEdge) (shape : Shape) (pieces : List Piece) → ArePieces es shape pieces
    → AreNamed (length es) (edge_at es) pieces
pieces_are_named es shape pieces h =
    let parts = by_levels es shape h.levels pieces h.are_levels h.are_pieces in
    record {
      there = All-from_recursion (λ q. q.edge < length es) pieces (each_part es (λ q. q.edge < length es)
          (λ q p. p.there) pieces parts);
      lengths = All-from_recursion HasLength pieces (each_part es HasLength (λ q p. p.some) pieces parts);
      lines = All-from_recursion (λ q. LiesAlong (edge_at es q.edge) q) pieces
          (each_part es (λ q. LiesAlong (edge_at es q.edge) q) (λ q p. p.along) pieces parts);
      apart = pieces_are_apart es shape pieces h;
    }
