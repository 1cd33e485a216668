-- A shape's values hard by a bundle at half height, on its left and on its right.
use Rattle.std.proofs.Common.{◌≡◌, ℕ, Bool, true, false, not, List, [], ◌∷◌, ◌++◌, refl, sym, ap, ◌∙◌, arith, subst}
use Rattle.scad_base.proofs.Products.{negative_factor}
use lib.IntN.{ℤ, pos, negsuc, ◌+ℤ◌, ◌-ℤ◌, ◌*ℤ◌, zero-*ℤ}
use lib.Signed.{◌<ℤ◌}
use Rattle.std.specs.List.{AllByRecursion, concat}
use Rattle.std.proofs.lemmas.Int.{ints}
use Rattle.scad_geom.specs.declared.point.Edge.{Edge}
use Rattle.scad_geom.specs.declared.level.Level.{Level}
use Rattle.scad_geom.specs.declared.level.LeafEdge.{LeafEdge}
use Rattle.scad_geom.specs.declared.shape.Shape.{Shape}
use Rattle.scad_geom.specs.Line.{rise, x_at, left_of}
use Rattle.scad_geom.specs.Point.{Point}
use Rattle.scad_geom.specs.Winding.{is_beyond}
use Rattle.scad_geom.specs.Shape.{is_in_by}
use Rattle.scad_geom.specs.Level.{IsLower, IsAtMost}
use Rattle.scad_geom.specs.Heights.{AreNeighbours}
use Rattle.scad_geom.specs.EdgeOrder.{IsBefore}
use Rattle.scad_base.proofs.Integers.{less_of_gap, gap_of_less, at_most_of_gap, gap_of_at_most, at_most_of_less}
use Rattle.slice_bundles.specs.Bundles.{no_edge, edge_at, Precedes, AreRanked, AreBundles}
use Rattle.scad_base.proofs.Products.{positive_product}
use Rattle.scad_geom.proofs.Signs.{at_least_mul, pos_left}
use Rattle.scad_geom.proofs.Lines.{left_of_by}
use Rattle.scad_geom.proofs.Heights.{lower_weak}
use Rattle.scad_geom.proofs.Turns.{level_at}
use Rattle.slice_border.proofs.Reaching.{lies_left}
use Rattle.scad_geom.specs.Line.{run, offset, left_of}
use Rattle.scad_geom.proofs.Ring.{ring, num, ◌⊕◌, ◌⊖◌, ◌⊗◌, v0, v1, v2, v3, v4}
use Rattle.scad_geom.proofs.Order.{back, before_inside}
use Rattle.slice_border.specs.Pieces.{spot_on, middle}
use Rattle.slice_pieces.specs.Spots.{point_of}
use Rattle.std.specs.Prelude.{unsigned_abs}
use Rattle.slice_border.proofs.Passing.{IsLive, live_bundles, passing, Around}
use Rattle.slice_border.proofs.Values.{value_of, is_in_passing}
use Rattle.winding_laws.proofs.Forms.{beyond_below, beyond_above}

low_middle : (ln ld un ud : ℤ) → (ln *ℤ ud +ℤ un *ℤ ld) *ℤ ld -ℤ ln *ℤ (pos 2 *ℤ (ld *ℤ ud))
    ≡ (un *ℤ ld -ℤ ln *ℤ ud) *ℤ
    ld
low_middle ln ld un ud = ring (ln ∷ ld ∷ un ∷ ud ∷ [])
    ((v0 ⊗ v3 ⊕ v2 ⊗ v1) ⊗ v1 ⊖ v0 ⊗ (num (pos 2) ⊗ (v1 ⊗ v3)))
    ((v2 ⊗ v1 ⊖ v0 ⊗ v3) ⊗ v1) refl

high_middle : (ln ld un ud : ℤ) → un *ℤ (pos 2 *ℤ (ld *ℤ ud)) -ℤ (ln *ℤ ud +ℤ un *ℤ ld) *ℤ ud
    ≡ (un *ℤ ld -ℤ ln *ℤ ud)
    *ℤ ud
high_middle ln ld un ud = ring (ln ∷ ld ∷ un ∷ ud ∷ [])
    (v2 ⊗ (num (pos 2) ⊗ (v1 ⊗ v3)) ⊖ (v0 ⊗ v3 ⊕ v2 ⊗ v1) ⊗ v3)
    ((v2 ⊗ v1 ⊖ v0 ⊗ v3) ⊗ v3) refl

scaled_lower : (pn pd n d r : ℤ) → n *ℤ r *ℤ pd -ℤ pn *ℤ (d *ℤ r) ≡ (n *ℤ pd -ℤ pn *ℤ d) *ℤ r
scaled_lower pn pd n d r = ring (pn ∷ pd ∷ n ∷ d ∷ r ∷ []) (v2 ⊗ v4 ⊗ v1 ⊖ v0 ⊗ (v3 ⊗ v4))
    ((v2 ⊗ v1 ⊖ v0 ⊗ v3) ⊗ v4)
    refl

scaled_upper : (pn pd n d r : ℤ) → pn *ℤ (d *ℤ r) -ℤ n *ℤ r *ℤ pd ≡ (pn *ℤ d -ℤ n *ℤ pd) *ℤ r
scaled_upper pn pd n d r = ring (pn ∷ pd ∷ n ∷ d ∷ r ∷ []) (v0 ⊗ (v3 ⊗ v4) ⊖ v2 ⊗ v4 ⊗ v1)
    ((v0 ⊗ v3 ⊖ v2 ⊗ v1) ⊗ v4)
    refl

-- the height of a spot's point is the spot's
abbrev pub scaled : Level → ℤ → Level
scaled h r = record { n = h.n *ℤ r; d = h.d *ℤ r }

pub lower_scaled : (p h : Level) (r : ℤ) → pos 0 <ℤ r → IsLower p h → IsLower p (scaled h r)
lower_scaled p h r pr o = let m = positive_product (h.n *ℤ p.d -ℤ p.n *ℤ h.d) r (gap_of_less (p.n *ℤ h.d) (h.n *ℤ p.d) o) pr in less_of_gap (p.n *ℤ (h.d *ℤ r)) ((h.n *ℤ r) *ℤ p.d) (rw (scaled_lower p.n p.d h.n h.d r) m)

pub at_most_scaled : (p h : Level) (r : ℤ) → pos 0 <ℤ r → IsAtMost p h → IsAtMost p (scaled h r)
at_most_scaled p h r pr o = let m = at_least_mul (h.n *ℤ p.d -ℤ p.n *ℤ h.d) r (gap_of_at_most (p.n *ℤ h.d) (h.n *ℤ p.d) o) (at_most_of_less (pos 0) r pr) in at_most_of_gap (p.n *ℤ (h.d *ℤ r)) ((h.n *ℤ r) *ℤ p.d) (rw (scaled_lower p.n p.d h.n h.d r) m)

pub scaled_below : (p h : Level) (r : ℤ) → pos 0 <ℤ r → IsLower h p → IsLower (scaled h r) p
scaled_below p h r pr o = let m = positive_product (p.n *ℤ h.d -ℤ h.n *ℤ p.d) r (gap_of_less (h.n *ℤ p.d) (p.n *ℤ h.d) o) pr in less_of_gap ((h.n *ℤ r) *ℤ p.d) (p.n *ℤ (h.d *ℤ r)) (rw (scaled_upper p.n p.d h.n h.d r) m)

pub scaled_at_most : (p h : Level) (r : ℤ) → pos 0 <ℤ r → IsAtMost h p → IsAtMost (scaled h r) p
scaled_at_most p h r pr o = let m = at_least_mul (p.n *ℤ h.d -ℤ h.n *ℤ p.d) r (gap_of_at_most (h.n *ℤ p.d) (p.n *ℤ h.d) o) (at_most_of_less (pos 0) r pr) in at_most_of_gap ((h.n *ℤ r) *ℤ p.d) (p.n *ℤ (h.d *ℤ r)) (rw (scaled_upper p.n p.d h.n h.d r) m)

pub middle_positive : (l u : Level) → pos 0 <ℤ l.d → pos 0 <ℤ u.d → pos 0 <ℤ (middle l u).d
middle_positive l u dl du = positive_product (pos 2) (l.d *ℤ u.d) (omega (arith, ints))
    (positive_product l.d u.d dl du)

above_low : (l u : Level) → pos 0 <ℤ l.d → IsLower l u → IsLower l (middle l u)
above_low l u dl o = let m = positive_product (u.n *ℤ l.d -ℤ l.n *ℤ u.d) l.d (gap_of_less (l.n *ℤ u.d) (u.n *ℤ l.d) o) dl in less_of_gap (l.n *ℤ (middle l u).d) ((middle l u).n *ℤ l.d) (rw (low_middle l.n l.d u.n u.d) m)

below_high : (l u : Level) → pos 0 <ℤ u.d → IsLower l u → IsLower (middle l u) u
below_high l u du o = let m = positive_product (u.n *ℤ l.d -ℤ l.n *ℤ u.d) u.d (gap_of_less (l.n *ℤ u.d) (u.n *ℤ l.d) o) du in less_of_gap ((middle l u).n *ℤ u.d) (u.n *ℤ (middle l u).d) (rw (high_middle l.n l.d u.n u.d) m)

-- the rise of an edge that rises is its size
pub size_of : (z : ℤ) → pos 0 <ℤ z → pos (unsigned_abs z) ≡ z
size_of (pos n) h = refl
size_of (negsuc n) h = absurd (omega (arith, ints))

-- the point of an edge at half height
abbrev pub half_point : List LeafEdge → Level → Level → ℕ → Point
half_point es l u k = point_of (spot_on (edge_at es k) (middle l u))

on_line : (u c r n d : ℤ) → u *ℤ (n *ℤ r) +ℤ c *ℤ (d *ℤ r) -ℤ r *ℤ (u *ℤ n +ℤ c *ℤ d) ≡ pos 0
on_line u c r n d = ring (u ∷ c ∷ r ∷ n ∷ d ∷ [])
    (v0 ⊗ (v3 ⊗ v2) ⊕ v1 ⊗ (v4 ⊗ v2) ⊖ v2 ⊗ (v0 ⊗ v3 ⊕ v1 ⊗ v4))
    (num (pos 0)) refl

-- a spot's point lies on the edge's line
pub on_own : (e : Edge) (h : Level) (r : ℤ) → r ≡ rise e
    → left_of e (x_at e h.n h.d) (h.n *ℤ r) (h.d *ℤ r) ≡ pos 0
unfolding left_of x_at
on_own e h r q = rw q (on_line (run e) (offset e) (rise e) h.n h.d)

-- a point of an edge, between the two heights
module _ (es : List LeafEdge) (l u : Level) (n : AreNeighbours es l u) (k : ℕ) (lk : IsLive es l u k) (p : Point) (dp : pos 0 <ℤ p.d) (from : IsLower l (level_at p)) (to : IsLower (level_at p) u) (on : left_of (edge_at es k) p.x p.y p.d ≡ pos 0) where
  around : (right : Bool) → Around es true right p l u
  around right = record { neighbours = n; divisor = dp; spans = (lower_weak l (level_at p) from, to) }

  -- an edge before it lies to the left, one after it to the right
  left_before : (j : ℕ) → IsLive es l u j → IsBefore l (edge_at es j) (edge_at es k)
      → left_of (edge_at es j) p.x p.y
      p.d <ℤ pos 0
  left_before j lj o =
      let g = before_inside es l u n j k no_edge lj.there lk.there lj.reaches lk.reaches o (level_at p) dp from to in
      let t = left_of_by (edge_at es k) (edge_at es j) p.x p.y p.d in
      let z = on in
      below_from _ (rise (edge_at es k)) _ (rise (edge_at es j)) _ _ lk.reaches.rises t z g
    where
      below_from : (a r b s x y : ℤ) → pos 0 <ℤ r → a *ℤ r ≡ b *ℤ s -ℤ (x -ℤ y) → b ≡ pos 0
          → y <ℤ x → a <ℤ pos 0
      below_from a r b s x y pr e z g =
          let w : b *ℤ s ≡ pos 0 = rw z (zero-*ℤ s) in
          let m : (a *ℤ r) <ℤ pos 0 = omega (arith, ints) in
          negative_factor a r pr m

  right_after : (j : ℕ) → IsLive es l u j → IsBefore l (edge_at es k) (edge_at es j)
      → pos 0 <ℤ left_of (edge_at es j)
      p.x p.y p.d
  right_after j lj o =
      let g = before_inside es l u n k j no_edge lk.there lj.there lk.reaches lj.reaches o (level_at p) dp from to in
      let t = left_of_by (edge_at es k) (edge_at es j) p.x p.y p.d in
      let z = on in
      above_from _ (rise (edge_at es k)) _ (rise (edge_at es j)) _ _ lk.reaches.rises t z g
    where
      above_from : (a r b s x y : ℤ) → pos 0 <ℤ r → a *ℤ r ≡ b *ℤ s -ℤ (x -ℤ y) → b ≡ pos 0
          → x <ℤ y → pos 0 <ℤ a
      above_from a r b s x y pr e z g =
          let w : b *ℤ s ≡ pos 0 = rw z (zero-*ℤ s) in
          pos_left a r pr (omega (arith, ints))

  itself : (right : Bool) (z : ℤ) → z ≡ pos 0 → is_beyond right z ≡ not right
  unfolding is_beyond
  itself true z h = rw h refl
  itself false z h = rw h refl

  -- the bundles before it don't lie to the right of its point
  skipped : (right : Bool) (ks : List ℕ) (before rest : List (List ℕ))
      → AreRanked es l (before ++ ((k ∷ ks) ∷ rest))
      → AllByRecursion (IsLive es l u) (concat (before ++ ((k ∷ ks) ∷ rest)))
      → passing es right p (before ++ ((k ∷ ks) ∷ rest)) ≡ passing es right p ((k ∷ ks) ∷ rest)
  skipped right ks [] rest r ls = refl
  skipped right ks ([] ∷ before) rest r ls = absurd r.0
  skipped right ks ((j ∷ js) ∷ before) rest r ls =
      let o : IsBefore l (edge_at es j) (edge_at es k) = (back (Precedes es l (j ∷ js)) before ((k ∷ ks) ∷ rest) r.1).0
      in
      let f : lies_left es right p j ≡ false = beyond_below right (left_of (edge_at es j) p.x p.y p.d)
      (left_before j ls.0 o) in
      rw f (skipped right ks before rest r.2
      (back (IsLive es l u) (j ∷ js) (concat (before ++ ((k ∷ ks) ∷ rest))) ls))

  -- those after it do
  after_pass : (right : Bool) (ks : List ℕ) (rest : List (List ℕ))
      → AllByRecursion (Precedes es l (k ∷ ks)) rest
      → AllByRecursion (IsLive es l u) (concat rest) → passing es right p rest ≡ rest
  after_pass right ks [] r ls = refl
  after_pass right ks ([] ∷ rest) r ls = absurd r.0
  after_pass right ks ((j ∷ js) ∷ rest) r ls =
      let t : lies_left es right p j ≡ true = beyond_above right (left_of (edge_at es j) p.x p.y p.d)
      (right_after j ls.0 r.0) in
      rw t refl

  from_here : (ks : List ℕ) (before rest : List (List ℕ)) → AreRanked es l (before ++ ((k ∷ ks) ∷ rest))
      → AreRanked es l ((k ∷ ks) ∷ rest)
  from_here ks [] rest r = r
  from_here ks (b ∷ before) rest r = from_here ks before rest r.2

  live_here : (ks : List ℕ) (before rest : List (List ℕ)) → AllByRecursion (IsLive es l u)
      (concat (before ++ ((k ∷ ks) ∷ rest))) → AllByRecursion (IsLive es l u) (concat ((k ∷ ks) ∷ rest))
  live_here ks [] rest ls = ls
  live_here ks (b ∷ before) rest ls = live_here ks before rest
      (back (IsLive es l u) b (concat (before ++ ((k ∷ ks) ∷ rest))) ls)

  passing_right : (ks : List ℕ) (before rest : List (List ℕ)) → AreRanked es l (before ++ ((k ∷ ks) ∷ rest))
      → AllByRecursion (IsLive es l u) (concat (before ++ ((k ∷ ks) ∷ rest)))
      → passing es true p (before ++ ((k ∷ ks) ∷ rest)) ≡ rest
  passing_right ks before rest r ls =
      let f : lies_left es true p k ≡ false = itself true (left_of (edge_at es k) p.x p.y p.d) on in
      skipped true ks before rest r ls ∙ rw f (after_pass true ks rest (from_here ks before rest r).1
      (back (IsLive es l u) (k ∷ ks) (concat rest) (live_here ks before rest ls)))

  passing_left : (ks : List ℕ) (before rest : List (List ℕ)) → AreRanked es l (before ++ ((k ∷ ks) ∷ rest))
      → AllByRecursion (IsLive es l u) (concat (before ++ ((k ∷ ks) ∷ rest)))
      → passing es false p (before ++ ((k ∷ ks) ∷ rest)) ≡ (k ∷ ks) ∷ rest
  passing_left ks before rest r ls =
      let t : lies_left es false p k ≡ true = itself false (left_of (edge_at es k) p.x p.y p.d) on in
      skipped false ks before rest r ls ∙ rw t refl

  pub value_right_at : (shape : Shape) (ks : List ℕ) (before rest : List (List ℕ))
      → AreBundles es l u (before ++ ((k ∷ ks) ∷ rest))
      → is_in_by true true es shape p ≡ value_of es shape rest
  value_right_at shape ks before rest b =
      is_in_passing es shape true true p l u (around true) (before ++ ((k ∷ ks) ∷ rest)) b
      ∙ ap (value_of es shape) (passing_right ks before rest b.ranked
      (live_bundles es l u (before ++ ((k ∷ ks) ∷ rest))
      b))

  pub value_left_at : (shape : Shape) (ks : List ℕ) (before rest : List (List ℕ))
      → AreBundles es l u (before ++ ((k ∷ ks) ∷ rest))
      → is_in_by true false es shape p ≡ value_of es shape ((k ∷ ks) ∷ rest)
  value_left_at shape ks before rest b =
      is_in_passing es shape true false p l u (around false) (before ++ ((k ∷ ks) ∷ rest)) b
      ∙ ap (value_of es shape) (passing_left ks before rest b.ranked
      (live_bundles es l u (before ++ ((k ∷ ks) ∷ rest))
      b))

-- the point at half height
module _ (es : List LeafEdge) (l u : Level) (n : AreNeighbours es l u) (k : ℕ) (lk : IsLive es l u k) where
  half_lower : IsLower l (level_at (half_point es l u k))
  half_lower = lower_scaled l (middle l u) (pos (unsigned_abs (rise (edge_at es k))))
      (subst (λ (z : ℤ). pos 0 <ℤ z) (sym (size_of (rise (edge_at es k)) lk.reaches.rises)) lk.reaches.rises)
      (above_low l u n.lower_divisor n.in_order)

  half_upper : IsLower (level_at (half_point es l u k)) u
  half_upper = scaled_below u (middle l u) (pos (unsigned_abs (rise (edge_at es k))))
      (subst (λ (z : ℤ). pos 0 <ℤ z) (sym (size_of (rise (edge_at es k)) lk.reaches.rises)) lk.reaches.rises)
      (below_high l u n.upper_divisor n.in_order)

  half_divisor : pos 0 <ℤ (half_point es l u k).d
  half_divisor = positive_product (middle l u).d (pos (unsigned_abs (rise (edge_at es k))))
      (middle_positive l u n.lower_divisor n.upper_divisor)
      (subst (λ (z : ℤ). pos 0 <ℤ z) (sym (size_of (rise (edge_at es k)) lk.reaches.rises)) lk.reaches.rises)

  half_on : left_of (edge_at es k) (half_point es l u k).x (half_point es l u k).y (half_point es l u k).d ≡ pos 0
  half_on = on_own (edge_at es k) (middle l u) (pos (unsigned_abs (rise (edge_at es k))))
      (size_of (rise (edge_at es k)) lk.reaches.rises)

  pub value_right : (shape : Shape) (ks : List ℕ) (before rest : List (List ℕ))
      → AreBundles es l u (before ++ ((k ∷ ks) ∷ rest))
      → is_in_by true true es shape (half_point es l u k) ≡ value_of es shape rest
  value_right = value_right_at es l u n k lk (half_point es l u k) half_divisor half_lower half_upper half_on

  pub value_left : (shape : Shape) (ks : List ℕ) (before rest : List (List ℕ))
      → AreBundles es l u (before ++ ((k ∷ ks) ∷ rest))
      → is_in_by true false es shape (half_point es l u k) ≡ value_of es shape ((k ∷ ks) ∷ rest)
  value_left = value_left_at es l u n k lk (half_point es l u k) half_divisor half_lower half_upper half_on
