-- What the tests of meeting and of crossing say.
use Rattle.std.proofs.Common.{◌≡◌, ◌⊎◌, inl, inr, Bool, true, false, true≢false, not, ◌&&◌, ◌||◌, [], ◌∷◌, refl, sym, ap, ap₂, ◌∙◌, subst, arith}
use Rattle.std.proofs.Common.{ℤ, pos, ◌-ℤ◌, ◌*ℤ◌, ◌<ℤ◌}
use Rattle.std.specs.Prelude.{int_le}
use Rattle.std.specs.Ordering.{int_eq}
use Rattle.std.specs.Cmp.{signed_Decides}
use Rattle.std.proofs.lemmas.Int.{ints}
use Rattle.std.proofs.lemmas.Bool.{and_parts}
use Rattle.scad_base.proofs.Tests.{int_le-true, int_le-at_most}
use Rattle.scad_base.proofs.Products.{zero_factor}
use Rattle.scad_geom.specs.declared.point.Pt.{Pt}
use Rattle.scad_geom.specs.declared.point.Edge.{Edge}
use Rattle.scad_geom.specs.Point.{Point, whole, is_same_point}
use Rattle.scad_geom.specs.Sign.{is_zero}
use Rattle.scad_geom.specs.Line.{low, high, rise, run, offset, x_at, left_of, lean}
use Rattle.scad_geom.specs.Meeting.{straddles, meets}
use Rattle.scad_geom.proofs.Signs.{zero_true}
use Rattle.scad_geom.proofs.Points.{same_height, same_across}
use Rattle.scad_geom.proofs.Ring.{ring, num, ◌⊕◌, ◌⊗◌, ◌⊖◌, v0, v1, v2}
use Rattle.slice_events.specs.Levels.{share_end, crosses}
use Rattle.slice_events.specs.Common.{IsBetween, IsAt, IsEndOf, Meet, Cross, MeetsSaysMeet, CrossesSaysCross}
use Rattle.slice_events.proofs.Common.{to_low, from_low, turn_of, parallel_flat, flat_parallel, left_by, on_line, AreOpposite, ends_opposite}
use Rattle.slice_events.proofs.Common.{HaveCommon, common_point, one_point}

-- ---- of tests
zero_none : (z : ℤ) → not (is_zero z) ≡ true → z ≡ pos 0 → ⊥
zero_none z h e = true≢false (sym h ∙ ap (λ (k : ℤ). not (is_zero k)) e)

none_zero : (z : ℤ) → (z ≡ pos 0 → ⊥) → not (is_zero z) ≡ true
none_zero z some = by_test (is_zero z) refl
  where
    by_test : (t : Bool) → is_zero z ≡ t → not t ≡ true
    by_test true h = absurd (some (zero_true z h))
    by_test false h = refl

either_true : (a b : Bool) → (a || b) ≡ true → (a ≡ true) ⊎ (b ≡ true)
either_true true b h = inl refl
either_true false b h = inr h

true_left : (a b : Bool) → a ≡ true → (a || b) ≡ true
true_left a b h = ap (λ (t : Bool). t || b) h

true_right : (a b : Bool) → b ≡ true → (a || b) ≡ true
true_right true b h = refl
true_right false b h = h

-- ---- on both sides
sides_by : (y z : ℤ) → ((int_le y (pos 0) && int_le (pos 0) z) || (int_le (pos 0) y && int_le z (pos 0))) ≡ true
    → AreOpposite y z
sides_by y z h = of (either_true _ _ h)
  where
    of : ((int_le y (pos 0) && int_le (pos 0) z) ≡ true) ⊎ ((int_le (pos 0) y && int_le z (pos 0)) ≡ true) → AreOpposite y z
    of (inl k) = let p = and_parts (int_le y (pos 0)) (int_le (pos 0) z) k in inl (int_le-true y (pos 0) p.0, int_le-true (pos 0) z p.1)
    of (inr k) = let p = and_parts (int_le (pos 0) y) (int_le z (pos 0)) k in inr (int_le-true (pos 0) y p.0, int_le-true z (pos 0) p.1)

by_sides : (y z : ℤ) → AreOpposite y z → ((int_le y (pos 0) && int_le (pos 0) z)
    || (int_le (pos 0) y && int_le z (pos 0))) ≡ true
by_sides y z (inl h) =
    true_left _ _ (ap₂ (λ (s t : Bool). s && t) (int_le-at_most y (pos 0) h.0) (int_le-at_most (pos 0) z h.1))
by_sides y z (inr h) =
    true_right (int_le y (pos 0) && int_le (pos 0) z) _
    (ap₂ (λ (s t : Bool). s && t) (int_le-at_most (pos 0) y h.0) (int_le-at_most z (pos 0) h.1))

abbrev Straddle : Edge → Edge → Type 0
Straddle e f = AreOpposite (left_by (low e) (high e) (whole (low f))) (left_by (low e) (high e) (whole (high f)))

straddle : (e f : Edge) → straddles e f ≡ true → Straddle e f
unfolding straddles left_of x_at run rise offset
straddle e f h = sides_by (left_by (low e) (high e) (whole (low f))) (left_by (low e) (high e) (whole (high f))) h

straddled : (e f : Edge) → Straddle e f → straddles e f ≡ true
unfolding straddles left_of x_at run rise offset
straddled e f h = by_sides (left_by (low e) (high e) (whole (low f))) (left_by (low e) (high e) (whole (high f))) h

-- ---- meeting
turns : (e f : Edge) → lean e f ≡ turn_of (low e) (high e) (low f) (high f)
unfolding lean run rise
turns e f = refl

meet : (e f : Edge) → meets e f ≡ true → Meet e f
unfolding meets
meet e f h =
    let slants = and_parts (not (is_zero (lean e f))) (straddles e f && straddles f e) h in
    let both = and_parts (straddles e f) (straddles f e) slants.1 in
    let some = zero_none (lean e f) slants.0 in
    let c : HaveCommon (low e) (high e) (low f) (high f) =
    common_point (low e) (high e) (low f) (high f) (λ flat. some (turns e f ∙ flat)) (straddle e f both.0) (straddle f e both.1) in
    record {
      slanted = λ parallel. some (parallel_flat e f parallel);
      point = c.point;
      common = record {
        positive = c.positive;
        of_first = from_low e c.point c.of_first;
        of_second = from_low f c.point c.of_second;
      };
    }

met : (e f : Edge) → Meet e f → meets e f ≡ true
unfolding meets
met e f m =
    let c = m.common in
    let p = m.point in
    let first = to_low e p c.of_first in
    let second = to_low f p c.of_second in
    ap₂ (λ (s t : Bool). s && t) (none_zero (lean e f) (λ flat. m.slanted (flat_parallel e f flat)))
    (ap₂ (λ (s t : Bool). s && t)
    (straddled e f (ends_opposite (low e) (high e) (low f) (high f) p c.positive first second))
    (straddled f e (ends_opposite (low f) (high f) (low e) (high e) p c.positive second first)))

pub meets_says_meet : MeetsSaysMeet
meets_says_meet e f = (meet e f, met e f)

-- ---- ends
itself : (z : ℤ) → int_eq z z ≡ true
itself z = (signed_Decides z z).1 refl

same_itself : (q : Pt) → is_same_point (whole q) (whole q) ≡ true
same_itself q = ap₂ (λ (s t : Bool). s && t) (itself (q.y *ℤ pos 1)) (itself (q.x *ℤ pos 1))

same_true : (v w : Pt) → v ≡ w → is_same_point (whole v) (whole w) ≡ true
same_true v w same = subst (λ (q : Pt). is_same_point (whole v) (whole q) ≡ true) same (same_itself v)

once : (y z : ℤ) → y *ℤ pos 1 ≡ z *ℤ pos 1 → y ≡ z
once y z h = omega (arith, ints)

true_same : (v w : Pt) → is_same_point (whole v) (whole w) ≡ true → v ≡ w
true_same v w h =
    let x = once v.x w.x (same_across (whole v) (whole w) h) in
    let y = once v.y w.y (same_height (whole v) (whole w) h) in
    λ k. record { x = x k; y = y k }

gap_none : (y z : ℤ) → y -ℤ z ≡ pos 0 → y ≡ z
gap_none y z h = omega (arith, ints)

no_gap : (y z : ℤ) → y ≡ z → y -ℤ z ≡ pos 0
no_gap y z h = omega (arith, ints)

one_factor : (y z d : ℤ) → pos 0 <ℤ d → y *ℤ d ≡ z *ℤ d → y ≡ z
one_factor y z d positive h =
    gap_none y z (zero_factor (y -ℤ z) d positive
    (ring (y ∷ z ∷ d ∷ []) ((v0 ⊖ v1) ⊗ v2) (v0 ⊗ v2 ⊖ v1 ⊗ v2) refl
    ∙ no_gap (y *ℤ d) (z *ℤ d) h))

-- what lies at one point
at_both : (v w : Pt) (p : Point) → pos 0 <ℤ p.d → IsAt v p → IsAt w p → v ≡ w
at_both v w p positive h k =
    let x = one_factor v.x w.x p.d positive (sym h.0 ∙ k.0) in
    let y = one_factor v.y w.y p.d positive (sym h.1 ∙ k.1) in
    λ i. record { x = x i; y = y i }

-- the edges share an end
abbrev Share : Edge → Edge → Type 0
Share e f = ((e.a ≡ f.a) ⊎ (e.a ≡ f.b)) ⊎ ((e.b ≡ f.a) ⊎ (e.b ≡ f.b))

pair_share : (v w x : Pt) → (is_same_point (whole v) (whole w) || is_same_point (whole v) (whole x)) ≡ true
    → (v ≡ w) ⊎ (v ≡ x)
pair_share v w x h = of (either_true _ _ h)
  where
    of : (is_same_point (whole v) (whole w) ≡ true) ⊎ (is_same_point (whole v) (whole x) ≡ true) → (v ≡ w) ⊎ (v ≡ x)
    of (inl k) = inl (true_same v w k)
    of (inr k) = inr (true_same v x k)

shares : (e f : Edge) → share_end e f ≡ true → Share e f
shares e f h = of (either_true _ _ h)
  where
    of : ((is_same_point (whole e.a) (whole f.a) || is_same_point (whole e.a) (whole f.b)) ≡ true)
        ⊎ ((is_same_point (whole e.b) (whole f.a) || is_same_point (whole e.b) (whole f.b)) ≡ true) → Share e f
    of (inl k) = inl (pair_share e.a f.a f.b k)
    of (inr k) = inr (pair_share e.b f.a f.b k)

share_pair : (v w x : Pt) → (v ≡ w) ⊎ (v ≡ x)
    → (is_same_point (whole v) (whole w) || is_same_point (whole v) (whole x)) ≡ true
share_pair v w x (inl k) = true_left _ _ (same_true v w k)
share_pair v w x (inr k) = true_right (is_same_point (whole v) (whole w)) _ (same_true v x k)

shared : (e f : Edge) → Share e f → share_end e f ≡ true
shared e f (inl h) = true_left _ _ (share_pair e.a f.a f.b h)
shared e f (inr h) =
    true_right (is_same_point (whole e.a) (whole f.a) || is_same_point (whole e.a) (whole f.b)) _
    (share_pair e.b f.a f.b h)

ends_share : (e f : Edge) (p : Point) → pos 0 <ℤ p.d → IsEndOf e p → IsEndOf f p → Share e f
ends_share e f p positive (inl h) (inl k) = inl (inl (at_both e.a f.a p positive h k))
ends_share e f p positive (inl h) (inr k) = inl (inr (at_both e.a f.b p positive h k))
ends_share e f p positive (inr h) (inl k) = inr (inl (at_both e.b f.a p positive h k))
ends_share e f p positive (inr h) (inr k) = inr (inr (at_both e.b f.b p positive h k))

-- an end is a point of its edge
start_between : (a b : Pt) → IsBetween a b (whole a)
start_between a b = record {
  s = pos 1;
  t = pos 0;
  first = omega (arith, ints);
  second = omega (arith, ints);
  some = omega (arith, ints);
  x = ring (a.x ∷ b.x ∷ []) ((num (pos 1) ⊕ num (pos 0)) ⊗ v0)
      ((num (pos 1) ⊗ v0 ⊕ num (pos 0) ⊗ v1) ⊗ num (pos 1)) refl;
  y = ring (a.y ∷ b.y ∷ []) ((num (pos 1) ⊕ num (pos 0)) ⊗ v0)
      ((num (pos 1) ⊗ v0 ⊕ num (pos 0) ⊗ v1) ⊗ num (pos 1)) refl;
}

end_between : (a b : Pt) → IsBetween a b (whole b)
end_between a b = record {
  s = pos 0;
  t = pos 1;
  first = omega (arith, ints);
  second = omega (arith, ints);
  some = omega (arith, ints);
  x = ring (a.x ∷ b.x ∷ []) ((num (pos 0) ⊕ num (pos 1)) ⊗ v1)
      ((num (pos 0) ⊗ v0 ⊕ num (pos 1) ⊗ v1) ⊗ num (pos 1)) refl;
  y = ring (a.y ∷ b.y ∷ []) ((num (pos 0) ⊕ num (pos 1)) ⊗ v1)
      ((num (pos 0) ⊗ v0 ⊕ num (pos 1) ⊗ v1) ⊗ num (pos 1)) refl;
}

-- ---- crossing
cross : (e f : Edge) → crosses e f ≡ true → Cross e f
cross e f h =
    let both = and_parts (meets e f) (not (share_end e f)) h in
    let m = meet e f both.0 in
    record {
      slanted = m.slanted;
      point = m.point;
      common = m.common;
      inner = λ first second.
          true≢false (sym both.1 ∙ ap not (shared e f (ends_share e f m.point m.common.positive first second)));
    }

-- a shared end is the common point
module _ (e f : Edge) (c : Cross e f) where
  at : (v : Pt) → IsBetween e.a e.b (whole v) → IsBetween f.a f.b (whole v) → IsAt v c.point
  at v first second =
      one_point (low e) (high e) (low f) (high f) v c.point
      (λ flat. c.slanted (flat_parallel e f (turns e f ∙ flat)))
      (on_line (low e) (high e) c.point (to_low e c.point c.common.of_first))
      (on_line (low f) (high f) c.point (to_low f c.point c.common.of_second))
      (on_line (low e) (high e) (whole v) (to_low e (whole v) first))
      (on_line (low f) (high f) (whole v) (to_low f (whole v) second))

  none_shared : Share e f → ⊥
  none_shared (inl (inl h)) =
      let p = at e.a (start_between e.a e.b) (subst (λ (v : Pt). IsBetween f.a f.b (whole v)) (sym h) (start_between f.a f.b)) in
      c.inner (inl p) (inl (subst (λ (v : Pt). IsAt v c.point) h p))
  none_shared (inl (inr h)) =
      let p = at e.a (start_between e.a e.b) (subst (λ (v : Pt). IsBetween f.a f.b (whole v)) (sym h) (end_between f.a f.b)) in
      c.inner (inl p) (inr (subst (λ (v : Pt). IsAt v c.point) h p))
  none_shared (inr (inl h)) =
      let p = at e.b (end_between e.a e.b) (subst (λ (v : Pt). IsBetween f.a f.b (whole v)) (sym h) (start_between f.a f.b)) in
      c.inner (inr p) (inl (subst (λ (v : Pt). IsAt v c.point) h p))
  none_shared (inr (inr h)) =
      let p = at e.b (end_between e.a e.b) (subst (λ (v : Pt). IsBetween f.a f.b (whole v)) (sym h) (end_between f.a f.b)) in
      c.inner (inr p) (inr (subst (λ (v : Pt). IsAt v c.point) h p))

  none_said : not (share_end e f) ≡ true
  none_said = by_test (share_end e f) refl
    where
      by_test : (t : Bool) → share_end e f ≡ t → not t ≡ true
      by_test true h = absurd (none_shared (shares e f h))
      by_test false h = refl

  crossed : crosses e f ≡ true
  crossed =
      ap₂ (λ (s t : Bool). s && t) (met e f (record { slanted = c.slanted; point = c.point; common = c.common }))
      none_said

pub crosses_says_cross : CrossesSaysCross
crosses_says_cross e f = (cross e f, crossed e f)
