-- The pieces between two neighbouring heights wind once round the points inside the shape, and not round the others.
use Rattle.std.proofs.Common.{◌≡◌, ℕ, Bool, true, false, List, [], ◌∷◌, ◌++◌, refl, sym, ap, ap₂, ◌∙◌, subst}
use lib.IntN.{ℤ, pos, negsuc, ◌+ℤ◌, ◌-ℤ◌, ◌*ℤ◌, neg_ℤ, +ℤ_idl}
use lib.Signed.{◌<ℤ◌}
use Rattle.std.specs.Prelude.{if◌then◌else◌}
use Rattle.std.specs.List.{AllByRecursion, concat}
use Rattle.slice_pieces.proofs.Ways.{wind_pieces-append}
use Rattle.scad_geom.specs.declared.point.Edge.{Edge}
use Rattle.scad_geom.specs.declared.level.Level.{Level}
use Rattle.scad_geom.specs.declared.level.LeafEdge.{LeafEdge}
use Rattle.scad_geom.specs.declared.shape.Shape.{Shape}
use Rattle.scad_geom.specs.Line.{rise, x_at, left_of}
use Rattle.scad_geom.specs.Point.{Point}
use Rattle.scad_geom.specs.Winding.{is_beyond}
use Rattle.scad_geom.specs.Shape.{is_in_by}
use Rattle.scad_geom.specs.Level.{IsLower}
use Rattle.slice_bundles.specs.Bundles.{edge_at, AreRanked, AreBundles}
use Rattle.scad_base.proofs.Products.{positive_product}
use Rattle.scad_geom.proofs.Turns.{level_at, Spans, beyond_mul}
use Rattle.slice_border.proofs.Reaching.{lies_left}
use Rattle.std.proofs.Common.{append_assoc}
use Rattle.scad_geom.specs.Line.{run, offset, left_of}
use Rattle.scad_geom.specs.Winding.{counted}
use Rattle.scad_geom.specs.Winding.{is_over, side_by, turn}
use Rattle.scad_geom.proofs.Ring.{ring, num, ◌⊕◌, ◌⊖◌, ◌⊗◌, v0, v1, v2, v3, v4, v5, v6, v7, v8, v9}
use Rattle.scad_geom.proofs.Turns.{Over, NotOver, over_true, over_false, rising_turn, falling_turn}
use Rattle.scad_geom.proofs.Shapes.{nothing_held}
use Rattle.scad_geom.proofs.Order.{back}
use Rattle.slice_pieces.specs.declared.piece.Spot.{Spot}
use Rattle.slice_border.specs.Pieces.{spot_on, piece_between, bundle_piece, slab_pieces}
use Rattle.slice_pieces.specs.Spots.{point_of}
use Rattle.slice_pieces.specs.Pieces.{wind_pieces}
use Rattle.std.specs.Prelude.{unsigned_abs}
use Rattle.slice_border.proofs.Passing.{IsLive, live_bundles, passing, HeadPasses, Around}
use Rattle.slice_border.proofs.Values.{all_pass, value_of, is_in_passing}
use Rattle.scad_base.proofs.Integers.{gap_of_less, zero_minus}
use Rattle.slice_border.proofs.Middle.{scaled, lower_scaled, at_most_scaled, scaled_below, scaled_at_most, size_of, half_point, value_right, value_left}

side_up : (u c r x y d n1 d1 n2 d2 : ℤ) → ((u *ℤ n2 +ℤ c *ℤ d2) *ℤ (d1 *ℤ r) -ℤ
    (u *ℤ n1 +ℤ c *ℤ d1) *ℤ (d2 *ℤ r)) *ℤ
    (y *ℤ (d1 *ℤ r) -ℤ n1 *ℤ r *ℤ d) -ℤ (n2 *ℤ r *ℤ (d1 *ℤ r) -ℤ n1 *ℤ r *ℤ (d2 *ℤ r)) *ℤ
    (x *ℤ (d1 *ℤ r) -ℤ (u *ℤ n1 +ℤ c *ℤ d1) *ℤ d) ≡ (u *ℤ y +ℤ c *ℤ d -ℤ r *ℤ x) *ℤ
    (r *ℤ r *ℤ (d1 *ℤ (n2 *ℤ d1 -ℤ n1 *ℤ d2)))
side_up u c r x y d n1 d1 n2 d2 = ring (u ∷ c ∷ r ∷ x ∷ y ∷ d ∷ n1 ∷ d1 ∷ n2 ∷ d2 ∷ [])
    (((v0 ⊗ v8 ⊕ v1 ⊗ v9) ⊗ (v7 ⊗ v2) ⊖ (v0 ⊗ v6 ⊕ v1 ⊗ v7) ⊗ (v9 ⊗ v2))
    ⊗ (v4 ⊗ (v7 ⊗ v2) ⊖ v6 ⊗ v2 ⊗ v5) ⊖
    (v8 ⊗ v2 ⊗ (v7 ⊗ v2) ⊖ v6 ⊗ v2 ⊗ (v9 ⊗ v2))
    ⊗ (v3 ⊗ (v7 ⊗ v2) ⊖ (v0 ⊗ v6 ⊕ v1 ⊗ v7) ⊗ v5))
    ((v0 ⊗ v4 ⊕ v1 ⊗ v5 ⊖ v2 ⊗ v3) ⊗ (v2 ⊗ v2 ⊗ (v7 ⊗ (v8 ⊗ v7 ⊖ v6 ⊗ v9)))) refl

side_down : (u c r x y d n1 d1 n2 d2 : ℤ)
    → pos 0 -ℤ (((u *ℤ n1 +ℤ c *ℤ d1) *ℤ (d2 *ℤ r) -ℤ (u *ℤ n2 +ℤ c *ℤ d2) *ℤ (d1 *ℤ r)) *ℤ
    (y *ℤ (d2 *ℤ r) -ℤ n2 *ℤ r *ℤ d) -ℤ (n1 *ℤ r *ℤ (d2 *ℤ r) -ℤ n2 *ℤ r *ℤ (d1 *ℤ r)) *ℤ
    (x *ℤ (d2 *ℤ r) -ℤ (u *ℤ n2 +ℤ c *ℤ d2) *ℤ d)) ≡ (u *ℤ y +ℤ c *ℤ d -ℤ r *ℤ x) *ℤ
    (r *ℤ r *ℤ (d2 *ℤ (n2 *ℤ d1 -ℤ n1 *ℤ d2)))
side_down u c r x y d n1 d1 n2 d2 = ring (u ∷ c ∷ r ∷ x ∷ y ∷ d ∷ n1 ∷ d1 ∷ n2 ∷ d2 ∷ [])
    (num (pos 0) ⊖ (((v0 ⊗ v6 ⊕ v1 ⊗ v7) ⊗ (v9 ⊗ v2) ⊖ (v0 ⊗ v8 ⊕ v1 ⊗ v9) ⊗ (v7 ⊗ v2)) ⊗
    (v4 ⊗ (v9 ⊗ v2) ⊖ v8 ⊗ v2 ⊗ v5) ⊖ (v6 ⊗ v2 ⊗ (v9 ⊗ v2) ⊖ v8 ⊗ v2 ⊗ (v7 ⊗ v2)) ⊗
    (v3 ⊗ (v9 ⊗ v2) ⊖ (v0 ⊗ v8 ⊕ v1 ⊗ v9) ⊗ v5))) ((v0 ⊗ v4 ⊕ v1 ⊗ v5 ⊖ v2 ⊗ v3) ⊗
    (v2 ⊗ v2 ⊗ (v9 ⊗ (v8 ⊗ v7 ⊖ v6 ⊗ v9)))) refl

over_scaled : (above : Bool) (p h : Level) (r : ℤ) → pos 0 <ℤ r → Over above p h → Over above p (scaled h r)
over_scaled true p h r pr o = lower_scaled p h r pr o
over_scaled false p h r pr o = at_most_scaled p h r pr o

not_over_scaled : (above : Bool) (p h : Level) (r : ℤ) → pos 0 <ℤ r → NotOver above p h
    → NotOver above p (scaled h r)
not_over_scaled true p h r pr o = scaled_at_most p h r pr o
not_over_scaled false p h r pr o = scaled_below p h r pr o

-- a spot lies over a point where its height does
pub spot_over : (above : Bool) (p : Point) (s : Spot) → pos 0 <ℤ pos s.run → Over above (level_at p) s.at
    → is_over above p (point_of s) ≡ true
spot_over above p s pr o = over_true above p (point_of s) (over_scaled above (level_at p) s.at (pos s.run) pr o)

pub spot_not_over : (above : Bool) (p : Point) (s : Spot) → pos 0 <ℤ pos s.run → NotOver above (level_at p) s.at
    → is_over above p (point_of s) ≡ false
spot_not_over above p s pr o = over_false above p (point_of s) (not_over_scaled above (level_at p) s.at (pos s.run) pr
    o)

pub side_up_is : (p : Point) (e : Edge) (l u : Level) (r : ℤ) → r ≡ rise e
    → side_by p (record { x = x_at e l.n l.d; y = l.n *ℤ r; d = l.d *ℤ r })
    (record { x = x_at e u.n u.d; y = u.n *ℤ r; d = u.d *ℤ r })
    ≡ left_of e p.x p.y p.d *ℤ ((rise e *ℤ rise e) *ℤ (l.d *ℤ (u.n *ℤ l.d -ℤ l.n *ℤ u.d)))
unfolding side_by left_of x_at
side_up_is p e l u r q = rw q (side_up (run e) (offset e) (rise e) p.x p.y p.d l.n l.d u.n u.d)

side_down_is : (p : Point) (e : Edge) (l u : Level) (r : ℤ) → r ≡ rise e
    → neg_ℤ (side_by p (record { x = x_at e u.n u.d; y = u.n *ℤ r; d = u.d *ℤ r })
    (record { x = x_at e l.n l.d; y = l.n *ℤ r; d = l.d *ℤ r }))
    ≡ left_of e p.x p.y p.d *ℤ ((rise e *ℤ rise e) *ℤ (u.d *ℤ (u.n *ℤ l.d -ℤ l.n *ℤ u.d)))
unfolding side_by left_of x_at
side_down_is p e l u r q = rw q (sym (zero_minus _)
    ∙ side_down (run e) (offset e) (rise e) p.x p.y p.d l.n l.d u.n u.d)

module _ (above right : Bool) (p : Point) (e : Edge) (l u : Level) (re : pos 0 <ℤ rise e) (dl : pos 0 <ℤ l.d) (du : pos 0 <ℤ u.d) (o : IsLower l u) (s : Spans above (level_at p) l u) where
  run_positive : pos 0 <ℤ pos (unsigned_abs (rise e))
  run_positive = subst (λ (z : ℤ). pos 0 <ℤ z) (sym (size_of (rise e) re)) re

  factor_positive : (d : ℤ) → pos 0 <ℤ d
      → pos 0 <ℤ ((rise e *ℤ rise e) *ℤ (d *ℤ (u.n *ℤ l.d -ℤ l.n *ℤ u.d)))
  factor_positive d dd = positive_product (rise e *ℤ rise e) (d *ℤ (u.n *ℤ l.d -ℤ l.n *ℤ u.d))
      (positive_product (rise e) (rise e) re re) (positive_product d (u.n *ℤ l.d -ℤ l.n *ℤ u.d) dd
      (gap_of_less (l.n *ℤ u.d) (u.n *ℤ l.d) o))

  pub up_turn : turn above right p (point_of (spot_on e l)) (point_of (spot_on e u))
      ≡ (if is_beyond right (left_of e p.x p.y p.d) then pos 1 else pos 0)
  up_turn =
      rising_turn above right p (point_of (spot_on e l)) (point_of (spot_on e u)) (spot_not_over above p (spot_on e l)
      run_positive s.0) (spot_over above p (spot_on e u) run_positive s.1)
      ∙ ap (λ (b : Bool). if b then pos 1 else pos 0)
      (ap (is_beyond right) (side_up_is p e l u (pos (unsigned_abs (rise e))) (size_of (rise e) re))
      ∙ beyond_mul right ((rise e *ℤ rise e) *ℤ (l.d *ℤ (u.n *ℤ l.d -ℤ l.n *ℤ u.d)))
      (left_of e p.x p.y p.d)
      (factor_positive l.d dl))

  pub down_turn : turn above right p (point_of (spot_on e u)) (point_of (spot_on e l))
      ≡ (if is_beyond right (left_of e p.x p.y p.d) then negsuc 0 else pos 0)
  down_turn =
      falling_turn above right p (point_of (spot_on e u)) (point_of (spot_on e l)) (spot_over above p (spot_on e u)
      run_positive s.1) (spot_not_over above p (spot_on e l) run_positive s.0)
      ∙ ap (λ (b : Bool). if b then negsuc 0 else pos 0)
      (ap (is_beyond right) (side_down_is p e l u (pos (unsigned_abs (rise e))) (size_of (rise e) re))
      ∙ beyond_mul right ((rise e *ℤ rise e) *ℤ (u.d *ℤ (u.n *ℤ l.d -ℤ l.n *ℤ u.d)))
      (left_of e p.x p.y p.d)
      (factor_positive u.d du))

-- ---- pieces
-- a piece winds by the difference of the values on its sides, where the point lies to its left
pub wind_between : (above right : Bool) (p : Point) (b v w : Bool) (s t : Spot) (name : ℕ)
    → turn above right p (point_of s) (point_of t) ≡ (if b then pos 1 else pos 0)
    → turn above right p (point_of t)
    (point_of s) ≡ (if b then negsuc 0 else pos 0)
    → wind_pieces above right p (piece_between v w s t name) ≡ (if b then counted v -ℤ counted w else pos 0)
wind_between above right p true true true s t name h k = refl
wind_between above right p false true true s t name h k = refl
wind_between above right p true true false s t name h k = rw h refl
wind_between above right p false true false s t name h k = rw h refl
wind_between above right p true false true s t name h k = rw k refl
wind_between above right p false false true s t name h k = rw k refl
wind_between above right p true false false s t name h k = refl
wind_between above right p false false false s t name h k = refl

passing_all : (es : List LeafEdge) (right : Bool) (p : Point) (bs : List (List ℕ))
    → AllByRecursion (HeadPasses es right p) bs → passing es right p bs ≡ bs
passing_all es right p [] h = refl
passing_all es right p ([] ∷ bs) h = absurd h.0
passing_all es right p ((k ∷ ks) ∷ bs) h = rw h.0 refl

value_nothing : (es : List LeafEdge) (shape : Shape) → value_of es shape [] ≡ false
value_nothing es shape = nothing_held shape

telescope : (v w : Bool) → (counted v -ℤ counted w) +ℤ counted w ≡ counted v
telescope true true = refl
telescope true false = refl
telescope false true = refl
telescope false false = refl

pub later_live : (es : List LeafEdge) (l u : Level) (before bs : List (List ℕ)) → AllByRecursion (IsLive es l u)
    (concat (before ++ bs))
    → AllByRecursion (IsLive es l u) (concat bs)
later_live es l u [] bs h = h
later_live es l u (b ∷ before) bs h = later_live es l u before bs (back (IsLive es l u) b (concat (before ++ bs)) h)

pub later_ranked : (es : List LeafEdge) (l : Level) (before bs : List (List ℕ))
    → AreRanked es l (before ++ bs) → AreRanked es l bs
later_ranked es l [] bs h = h
later_ranked es l (b ∷ before) bs h = later_ranked es l before bs h.2

module _ (es : List LeafEdge) (shape : Shape) (above right : Bool) (p : Point) (l u : Level) (a : Around es above right p l u) where
  pub slab_wind : (before bs : List (List ℕ)) → AreBundles es l u (before ++ bs)
      → wind_pieces above right p (slab_pieces es shape l u bs)
      ≡ counted (value_of es shape (passing es right p bs))
  slab_wind before [] b = sym (ap counted (value_nothing es shape))
  slab_wind before ([] ∷ bs) b = absurd (later_ranked es l before ([] ∷ bs) b.ranked).0
  slab_wind before ((k ∷ ks) ∷ bs) b =
      let shifted : before ++ ((k ∷ ks) ∷ bs) ≡ (before ++ ((k ∷ ks) ∷ [])) ++ bs =
      sym (append_assoc before ((k ∷ ks) ∷ []) bs) in
      let r = slab_wind (before ++ ((k ∷ ks) ∷ [])) bs (subst (AreBundles es l u) shifted b) in
      let ls = later_live es l u before ((k ∷ ks) ∷ bs) (live_bundles es l u (before ++ ((k ∷ ks) ∷ bs)) b) in
      let lk : IsLive es l u k = ls.0 in
      let n = a.neighbours in
      let one = wind_between above right p (lies_left es right p k) (is_in_by true false es shape (half_point es l u k))
      (is_in_by true true es shape (half_point es l u k))
      (spot_on (edge_at es k) l) (spot_on (edge_at es k) u) k
      (up_turn above right p (edge_at es k) l u lk.reaches.rises n.lower_divisor n.upper_divisor n.in_order a.spans)
      (down_turn above right p (edge_at es k) l u lk.reaches.rises n.lower_divisor n.upper_divisor n.in_order a.spans)
      in
      let vl = value_left es l u n k lk shape ks before bs b in
      let vr = value_right es l u n k lk shape ks before bs b in
      let one' = one ∙ ap₂ (λ (v w : Bool). if lies_left es right p k then counted v -ℤ counted w else pos 0) vl vr in
      let split = wind_pieces-append above right p (bundle_piece es shape l u (k ∷ ks)) (slab_pieces es shape l u bs) in
      let ranked = later_ranked es l before ((k ∷ ks) ∷ bs) b.ranked in
      split ∙ ap₂ (λ (y z : ℤ). y +ℤ z) one' r
      ∙ by_test (lies_left es right p k) (λ e. passing_all es right p bs
      (all_pass es above right p l u a k ks bs lk ranked.1 (back (IsLive es l u) (k ∷ ks) (concat bs) ls) e))
    where
      by_test : (t : Bool) → (t ≡ true → passing es right p bs ≡ bs)
          → (if t then counted (value_of es shape ((k ∷ ks) ∷ bs)) -ℤ counted (value_of es shape bs) else pos 0)
          +ℤ
          counted (value_of es shape (passing es right p bs))
          ≡ counted (value_of es shape (if t then (k ∷ ks) ∷ bs else passing es right p bs))
      by_test true f = rw (f refl) (telescope (value_of es shape ((k ∷ ks) ∷ bs)) (value_of es shape bs))
      by_test false f = +ℤ_idl (counted (value_of es shape (passing es right p bs)))

  -- round every point between the two heights
  pub slab_winding : (bs : List (List ℕ)) → AreBundles es l u bs
      → wind_pieces above right p (slab_pieces es shape l u bs) ≡ counted (is_in_by above right es shape p)
  slab_winding bs b = slab_wind [] bs b ∙ sym (ap counted (is_in_passing es shape above right p l u a bs b))
