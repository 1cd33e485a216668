-- What lies in a rectangle that a move doesn't come to, and in one off a point.
use Rattle.std.proofs.Common.{◌≡◌, ◌⊎◌, inl, inr, ℕ, Bool, true, false, [], ◌∷◌, List, refl, ap, ap₂, sym, ◌∙◌, arith, ℤ, pos, negsuc, neg_ℤ, ◌+ℤ◌, ◌-ℤ◌, ◌*ℤ◌, ◌<ℤ◌}
use lib.Signed.{◌≤ℤ◌}
use Rattle.std.specs.Prelude.{◌||◌, int_lt, int_le, All, if◌then◌else◌}
use Rattle.std.proofs.lemmas.Int.{ints}
use Rattle.std.proofs.lemmas.List.Elements.{All-head, All-tail}
use Rattle.scad_base.proofs.Tests.{int_lt-true, int_le-true}
use Rattle.scad_geom.specs.declared.point.Pt.{Pt}
use Rattle.scad_geom.specs.declared.point.Edge.{Edge}
use Rattle.scad_geom.specs.declared.half.Half.TheVariants.{Whole}
use Rattle.scad_geom.specs.Half.{meant}
use Rattle.scad_geom.specs.Point.{whole}
use Rattle.scad_geom.specs.Segment.{segments}
use Rattle.scad_geom.specs.Winding.{is_over, is_beyond as is_beyond_number, side_by, turn, wind}
use Rattle.scad_geom.proofs.Rising.{order}
use Rattle.scad_geom.proofs.Signs.{at_least_mul}
use Rattle.scad_geom.proofs.Turns.{flat_turn, rising_turn, falling_turn}
use Rattle.scad_geom.proofs.Ring.{ring, num, ◌⊕◌, ◌⊖◌, ◌⊗◌, v0, v1, v2, v3, v4, v5}
use Rattle.scad_ring.specs.Octagon.{octagon}
use Rattle.scad_ring.specs.Nearness.{Closed}
use Rattle.scad_near.specs.Edges.{AreApart}
use Rattle.scad_near.proofs.Spread.{Weights, spread, weights_if_near}
use Rattle.plan_verify.specs.declared.extent.Extent.{Extent}
use Rattle.plan_verify.specs.Extent.{IsIn, Covers, Reaches, is_beyond, is_off}

pub in_covered : (x y : Extent) (e : Edge) → Covers x y → IsIn y e → IsIn x e
in_covered x y e c i =
    let l = c.left in
    let r = c.right in
    let b = c.bottom in
    let t = c.top in
    let al = i.a.left in
    let ar = i.a.right in
    let ab = i.a.bottom in
    let at = i.a.top in
    let bl = i.b.left in
    let br = i.b.right in
    let bb = i.b.bottom in
    let bt = i.b.top in
    record {
      a = record {
        left = omega (arith, ints, l, al);
        right = omega (arith, ints, r, ar);
        bottom = omega (arith, ints, b, ab);
        top = omega (arith, ints, t, at);
      };
      b = record {
        left = omega (arith, ints, l, bl);
        right = omega (arith, ints, r, br);
        bottom = omega (arith, ints, b, bb);
        top = omega (arith, ints, t, bt);
      };
    }

-- ---- rectangles that a move doesn't come to
-- a mean of numbers from l on is from l on
gap_is : (k l r z m : ℤ) → k *ℤ (r -ℤ m) +ℤ l *ℤ (z -ℤ m)
    ≡ (k *ℤ r +ℤ l *ℤ z) -ℤ (k +ℤ l) *ℤ m
gap_is k l r z m = ring (k ∷ l ∷ r ∷ z ∷ m ∷ []) (v0 ⊗ (v2 ⊖ v4) ⊕ v1 ⊗ (v3 ⊖ v4))
    ((v0 ⊗ v2 ⊕ v1 ⊗ v3) ⊖ (v0 ⊕ v1) ⊗ v4) refl

from_least : (k l r z m : ℤ) → pos 0 ≤ℤ k → pos 0 ≤ℤ l → m ≤ℤ r → m ≤ℤ z
    → ((k +ℤ l) *ℤ m) ≤ℤ (k *ℤ r +ℤ l *ℤ z)
from_least k l r z m hk hl hr hz =
    let p = at_least_mul k (r -ℤ m) hk (omega (arith, ints, hr)) in
    let q = at_least_mul l (z -ℤ m) hl (omega (arith, ints, hz)) in
    let e = gap_is k l r z m in
    omega (arith, ints, p, q, e)

below_is : (k l r z m : ℤ) → k *ℤ (m -ℤ r) +ℤ l *ℤ (m -ℤ z)
    ≡ (k +ℤ l) *ℤ m -ℤ (k *ℤ r +ℤ l *ℤ z)
below_is k l r z m = ring (k ∷ l ∷ r ∷ z ∷ m ∷ []) (v0 ⊗ (v4 ⊖ v2) ⊕ v1 ⊗ (v4 ⊖ v3))
    ((v0 ⊕ v1) ⊗ v4 ⊖ (v0 ⊗ v2 ⊕ v1 ⊗ v3)) refl

to_most : (k l r z m : ℤ) → pos 0 ≤ℤ k → pos 0 ≤ℤ l → r ≤ℤ m → z ≤ℤ m
    → (k *ℤ r +ℤ l *ℤ z) ≤ℤ ((k +ℤ l) *ℤ m)
to_most k l r z m hk hl hr hz =
    let p = at_least_mul k (m -ℤ r) hk (omega (arith, ints, hr)) in
    let q = at_least_mul l (m -ℤ z) hl (omega (arith, ints, hz)) in
    let e = below_is k l r z m in
    omega (arith, ints, p, q, e)

-- numbers at most m, with means that are more than s below those of numbers from n on
apart_is : (w m n s : ℤ) → w *ℤ (n -ℤ (m +ℤ s)) ≡ w *ℤ n -ℤ (w *ℤ m +ℤ s *ℤ w)
apart_is w m n s = ring (w ∷ m ∷ n ∷ s ∷ []) (v0 ⊗ (v2 ⊖ (v1 ⊕ v3)))
    (v0 ⊗ v2 ⊖ (v0 ⊗ v1 ⊕ v3 ⊗ v0)) refl

strictly : (w m n s : ℤ) → pos 0 <ℤ w → (m +ℤ s) <ℤ n → (w *ℤ m +ℤ s *ℤ w) <ℤ (w *ℤ n)
strictly w m n s hw less =
    let p = at_least_mul w ((n -ℤ (m +ℤ s)) -ℤ pos 1) (omega (arith, ints, hw)) (omega (arith, ints, less)) in
    let e = apart_is w m n s in
    let f = one_less w (n -ℤ (m +ℤ s)) in
    omega (arith, ints, p, e, f, hw)
  where
    one_less : (w z : ℤ) → w *ℤ (z -ℤ pos 1) ≡ w *ℤ z -ℤ w
    one_less w z = ring (w ∷ z ∷ []) (v0 ⊗ (v1 ⊖ num (pos 1))) (v0 ⊗ v1 ⊖ v0) refl

same_times : (v w m : ℤ) → v ≡ w → v *ℤ m ≡ w *ℤ m
same_times v w m e = ap (λ (z : ℤ). z *ℤ m) e

-- r and z lie at most at m, p and q from n on, and m + s is below n
past_right : (s t k l p q r z m n b : ℤ) → pos 0 ≤ℤ s → pos 0 ≤ℤ t → pos 0 ≤ℤ k → pos 0 ≤ℤ l
    → s +ℤ t ≡ k +ℤ l
    → pos 0 <ℤ (s +ℤ t) → r ≤ℤ m → z ≤ℤ m → n ≤ℤ p → n ≤ℤ q → (m +ℤ b) <ℤ n
    → (b *ℤ (s +ℤ t)) <ℤ (pos 0 -ℤ spread s t k l p q r z)
past_right s t k l p q r z m n b hs ht hk hl same some hr hz hp hq less =
    let u = to_most k l r z m hk hl hr hz in
    let v = from_least s t p q n hs ht hp hq in
    let w = strictly (s +ℤ t) m n b some less in
    let e = same_times (s +ℤ t) (k +ℤ l) m same in
    omega (arith, ints, u, v, w, e)

past_left : (s t k l p q r z m n b : ℤ) → pos 0 ≤ℤ s → pos 0 ≤ℤ t → pos 0 ≤ℤ k → pos 0 ≤ℤ l
    → s +ℤ t ≡ k +ℤ l
    → pos 0 <ℤ (s +ℤ t) → n ≤ℤ r → n ≤ℤ z → p ≤ℤ m → q ≤ℤ m → (m +ℤ b) <ℤ n
    → (b *ℤ (s +ℤ t)) <ℤ spread s t k l p q r z
past_left s t k l p q r z m n b hs ht hk hl same some hr hz hp hq less =
    let u = to_most s t p q m hs ht hp hq in
    let v = from_least k l r z n hk hl hr hz in
    let w = strictly (s +ℤ t) m n b some less in
    let e = same_times (s +ℤ t) (k +ℤ l) n same in
    omega (arith, ints, u, v, w, e)

-- a rectangle lies wholly to one side of another
beyond_parts : (x y : Extent) → is_beyond x y ≡ true
    → (x.right <ℤ y.left) ⊎ ((y.right <ℤ x.left) ⊎ ((x.top <ℤ y.bottom) ⊎ (y.top <ℤ x.bottom)))
unfolding is_beyond
beyond_parts x y h = by_tests (int_lt x.right y.left) (int_lt y.right x.left) (int_lt x.top y.bottom)
    (int_lt y.top x.bottom)
    refl refl refl refl h
  where
    by_tests : (a b c d : Bool) → int_lt x.right y.left ≡ a → int_lt y.right x.left ≡ b
        → int_lt x.top y.bottom ≡ c → int_lt y.top x.bottom ≡ d → (a || (b || (c || d))) ≡ true
        → (x.right <ℤ y.left) ⊎ ((y.right <ℤ x.left) ⊎ ((x.top <ℤ y.bottom) ⊎ (y.top <ℤ x.bottom)))
    by_tests true b c d e f g i o = inl (int_lt-true x.right y.left e)
    by_tests false true c d e f g i o = inr (inl (int_lt-true y.right x.left f))
    by_tests false false true d e f g i o = inr (inr (inl (int_lt-true x.top y.bottom g)))
    by_tests false false false true e f g i o = inr (inr (inr (int_lt-true y.top x.bottom i)))
    by_tests false false false false e f g i o = absurd (cc)

module _ (s u : ℕ) (r : Extent) (line : Edge) (reach : Reaches (pos s) r line) (x : Extent) (e : Edge) (inside : IsIn x e)
    (beyond : is_beyond x r ≡ true) where
  no_weights : (m n k l : ℤ) → Weights (pos s) (pos u) line.a line.b e.a e.b m n k l → ⊥
  no_weights m n k l o =
      let h = o.held in
      let most_x = h.0 in
      let least_x = h.1.0 in
      let most_y = h.1.1.0 in
      let least_y = h.1.1.1.0 in
      let ral = reach.a.left in
      let rar = reach.a.right in
      let rab = reach.a.bottom in
      let rat = reach.a.top in
      let rbl = reach.b.left in
      let rbr = reach.b.right in
      let rbb = reach.b.bottom in
      let rbt = reach.b.top in
      let ial = inside.a.left in
      let iar = inside.a.right in
      let iab = inside.a.bottom in
      let iat = inside.a.top in
      let ibl = inside.b.left in
      let ibr = inside.b.right in
      let ibb = inside.b.bottom in
      let ibt = inside.b.top in
      elim (beyond_parts x r beyond) [
        | inl g ↦
            let p = past_right m n k l line.a.x line.b.x e.a.x e.b.x x.right (r.left +ℤ pos s) (pos s) o.first o.second o.third
            o.fourth o.same o.some iar ibr (omega (arith, ints, ral)) (omega (arith, ints, rbl)) (omega (arith, ints, g)) in
            absurd (omega (arith, ints, p, least_x))
        | inr (inl g) ↦
            let p = past_left m n k l line.a.x line.b.x e.a.x e.b.x (r.right -ℤ pos s) x.left (pos s) o.first o.second o.third
            o.fourth o.same o.some ial ibl (omega (arith, ints, rar)) (omega (arith, ints, rbr)) (omega (arith, ints, g)) in
            absurd (omega (arith, ints, p, most_x))
        | inr (inr (inl g)) ↦
            let p = past_right m n k l line.a.y line.b.y e.a.y e.b.y x.top (r.bottom +ℤ pos s) (pos s) o.first o.second o.third
            o.fourth o.same o.some iat ibt (omega (arith, ints, rab)) (omega (arith, ints, rbb)) (omega (arith, ints, g)) in
            absurd (omega (arith, ints, p, least_y))
        | inr (inr (inr g)) ↦
            let p = past_left m n k l line.a.y line.b.y e.a.y e.b.y (r.top -ℤ pos s) x.bottom (pos s) o.first o.second o.third
            o.fourth o.same o.some iab ibb (omega (arith, ints, rat)) (omega (arith, ints, rbt)) (omega (arith, ints, g)) in
            absurd (omega (arith, ints, p, most_y))
      ]

  pub beyond_apart : AreApart Closed (octagon (pos s) (pos u)) (whole line.a) (whole line.b) (whole e.a) (whole e.b)
  beyond_apart m n hm hn some k l hk hl more near =
      no_weights (m *ℤ (k +ℤ l)) (n *ℤ (k +ℤ l)) (k *ℤ (m +ℤ n)) (l *ℤ (m +ℤ n))
      (weights_if_near (pos s) (pos u) line.a line.b e.a e.b m n k l hm hn some hk hl more near)

-- ---- rectangles off a point
off_parts : (x : Extent) (p : Pt) → is_off x p ≡ true
    → (x.top ≤ℤ p.y) ⊎ ((p.y <ℤ x.bottom) ⊎ (x.right ≤ℤ p.x))
unfolding is_off
off_parts x p h = by_tests (int_le x.top p.y) (int_lt p.y x.bottom) (int_le x.right p.x) refl refl refl h
  where
    by_tests : (a b c : Bool) → int_le x.top p.y ≡ a → int_lt p.y x.bottom ≡ b → int_le x.right p.x ≡ c
        → (a || (b || c)) ≡ true → (x.top ≤ℤ p.y) ⊎ ((p.y <ℤ x.bottom) ⊎ (x.right ≤ℤ p.x))
    by_tests true b c e f g o = inl (int_le-true x.top p.y e)
    by_tests false true c e f g o = inr (inl (int_lt-true p.y x.bottom f))
    by_tests false false true e f g o = inr (inr (int_le-true x.right p.x g))
    by_tests false false false e f g o = absurd (cc)

not_over : (p : Pt) (z : Pt) → z.y ≤ℤ p.y → is_over true (meant Whole p) (whole z) ≡ false
unfolding is_over
not_over p z h = sym (omega (arith, ints, h))

is_above : (p : Pt) (z : Pt) → p.y <ℤ z.y → is_over true (meant Whole p) (whole z) ≡ true
unfolding is_over
is_above p z h = sym (omega (arith, ints, h))

side_is : (ax ay bx by px py : ℤ)
    → pos 2 *ℤ ((bx *ℤ pos 1 -ℤ ax *ℤ pos 1) *ℤ ((pos 2 *ℤ py) *ℤ pos 1 -ℤ ay *ℤ pos 2) -ℤ
    (by *ℤ pos 1 -ℤ ay *ℤ pos 1) *ℤ ((pos 2 *ℤ px) *ℤ pos 1 -ℤ ax *ℤ pos 2))
    ≡ pos 0 -ℤ (pos 4 *ℤ ((px -ℤ bx) *ℤ (py -ℤ ay)) +ℤ pos 4 *ℤ ((by -ℤ py) *ℤ (px -ℤ ax)))
side_is ax ay bx by px py = ring (ax ∷ ay ∷ bx ∷ by ∷ px ∷ py ∷ [])
    (num (pos 2) ⊗ ((v2 ⊗ num (pos 1) ⊖ v0 ⊗ num (pos 1))
    ⊗ ((num (pos 2) ⊗ v5) ⊗ num (pos 1) ⊖ v1 ⊗ num (pos 2)) ⊖
    (v3 ⊗ num (pos 1) ⊖ v1 ⊗ num (pos 1)) ⊗ ((num (pos 2) ⊗ v4) ⊗ num (pos 1) ⊖ v0 ⊗ num (pos 2))))
    (num (pos 0) ⊖ (num (pos 4) ⊗ ((v4 ⊖ v2) ⊗ (v5 ⊖ v1)) ⊕ num (pos 4) ⊗ ((v3 ⊖ v5) ⊗ (v4 ⊖ v0))))
    refl

turned_is : (px bx py ay : ℤ) → (px -ℤ bx) *ℤ (py -ℤ ay) ≡ pos 0 -ℤ (px -ℤ bx) *ℤ (ay -ℤ py)
turned_is px bx py ay = ring (px ∷ bx ∷ py ∷ ay ∷ []) ((v0 ⊖ v1) ⊗ (v2 ⊖ v3))
    (num (pos 0) ⊖ (v0 ⊖ v1) ⊗ (v3 ⊖ v2)) refl

turned_second : (by py px ax : ℤ) → (by -ℤ py) *ℤ (px -ℤ ax) ≡ pos 0 -ℤ (py -ℤ by) *ℤ (px -ℤ ax)
turned_second by py px ax = ring (by ∷ py ∷ px ∷ ax ∷ []) ((v0 ⊖ v1) ⊗ (v2 ⊖ v3))
    (num (pos 0) ⊖ (v1 ⊖ v0) ⊗ (v2 ⊖ v3)) refl

-- an edge that isn't to the right of a point doesn't turn round it
not_right : (p : Pt) (e : Edge) → e.a.x ≤ℤ p.x → e.b.x ≤ℤ p.x
    → turn true true (meant Whole p) (whole e.a) (whole e.b) ≡ pos 0
unfolding is_beyond_number side_by
not_right p e ha hb = by_heights (order e.a.y p.y) (order e.b.y p.y)
  where
    not_above : (z : ℤ) → z ≤ℤ pos 0 → is_beyond_number true z ≡ false
    not_above z h = sym (omega (arith, ints, h))

    by_heights : (e.a.y ≤ℤ p.y) ⊎ (p.y <ℤ e.a.y) → (e.b.y ≤ℤ p.y) ⊎ (p.y <ℤ e.b.y)
        → turn true true (meant Whole p) (whole e.a) (whole e.b) ≡ pos 0
    by_heights (inl a) (inl b) = flat_turn true true (meant Whole p) (whole e.a) (whole e.b)
        (not_over p e.a a ∙ sym (not_over p e.b b))
    by_heights (inr a) (inr b) = flat_turn true true (meant Whole p) (whole e.a) (whole e.b)
        (is_above p e.a a ∙ sym (is_above p e.b b))
    by_heights (inl a) (inr b) =
        let i = side_is e.a.x e.a.y e.b.x e.b.y p.x p.y in
        let m = at_least_mul (p.x -ℤ e.b.x) (p.y -ℤ e.a.y) (omega (arith, ints, hb)) (omega (arith, ints, a)) in
        let n = at_least_mul (e.b.y -ℤ p.y) (p.x -ℤ e.a.x) (omega (arith, ints, b)) (omega (arith, ints, ha)) in
        rising_turn true true (meant Whole p) (whole e.a) (whole e.b) (not_over p e.a a) (is_above p e.b b)
        ∙ ap (λ (t : Bool). if t then pos 1 else pos 0)
        (not_above (side_by (meant Whole p) (whole e.a) (whole e.b)) (omega (arith, ints, i, m, n)))
    by_heights (inr a) (inl b) =
        let i = side_is e.a.x e.a.y e.b.x e.b.y p.x p.y in
        let m = at_least_mul (p.x -ℤ e.b.x) (e.a.y -ℤ p.y) (omega (arith, ints, hb)) (omega (arith, ints, a)) in
        let n = at_least_mul (p.y -ℤ e.b.y) (p.x -ℤ e.a.x) (omega (arith, ints, b)) (omega (arith, ints, ha)) in
        let f = turned_is p.x e.b.x p.y e.a.y in
        let g = turned_second e.b.y p.y p.x e.a.x in
        falling_turn true true (meant Whole p) (whole e.a) (whole e.b) (is_above p e.a a) (not_over p e.b b)
        ∙ ap (λ (t : Bool). if t then negsuc 0 else pos 0)
        (not_above (neg_ℤ (side_by (meant Whole p) (whole e.a) (whole e.b))) (omega (arith, ints, i, m, n, f, g)))

off_turn : (x : Extent) (p : Pt) (e : Edge) → is_off x p ≡ true → IsIn x e
    → turn true true (meant Whole p) (whole e.a) (whole e.b) ≡ pos 0
off_turn x p e off i =
    let ar = i.a.right in
    let br = i.b.right in
    let at = i.a.top in
    let bt = i.b.top in
    let ab = i.a.bottom in
    let bb = i.b.bottom in
    elim (off_parts x p off) [
      | inl h ↦ flat_turn true true (meant Whole p) (whole e.a) (whole e.b)
          (not_over p e.a (omega (arith, ints, h, at)) ∙ sym (not_over p e.b (omega (arith, ints, h, bt))))
      | inr (inl h) ↦ flat_turn true true (meant Whole p) (whole e.a) (whole e.b)
          (is_above p e.a (omega (arith, ints, h, ab)) ∙ sym (is_above p e.b (omega (arith, ints, h, bb))))
      | inr (inr h) ↦ not_right p e (omega (arith, ints, h, ar)) (omega (arith, ints, h, br))
    ]

pub off_wind : (x : Extent) (p : Pt) (es : List Edge) → is_off x p ≡ true → All (IsIn x) es
    → wind (meant Whole p) (segments es) ≡ pos 0
off_wind x p [] off all = refl
off_wind x p (e ∷ es) off all =
    ap₂ (λ (y z : ℤ). y +ℤ z) (off_turn x p e off (All-head (IsIn x) e es all))
    (off_wind x p es off (All-tail (IsIn x) e es all))
