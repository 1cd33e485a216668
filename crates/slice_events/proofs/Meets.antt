-- Edges that meet have a common point in both boxes, and where they meet at an end or along a flat edge the height is
-- that of
-- an end.
use Rattle.std.proofs.Common.{◌≡◌, ◌⊎◌, inl, inr, Bool, true, false, not, ◌&&◌, ◌||◌, [], ◌∷◌, refl, sym, ap₂, ◌∙◌, arith, subst}
use Rattle.std.proofs.Math.Bool.{and_comm}
use Rattle.std.proofs.lemmas.Bool.{and_parts}
use lib.IntN.{ℤ, pos, ◌+ℤ◌, ◌-ℤ◌, ◌*ℤ◌, neg_ℤ}
use lib.Signed.{◌<ℤ◌, ◌≤ℤ◌}
use Rattle.std.specs.Prelude.{int_lt, int_le}
use Rattle.std.proofs.lemmas.Int.{ints, by_lt_z}
use Rattle.scad_base.proofs.Integers.{at_most_of_gap}
use Rattle.scad_base.proofs.Tests.{int_le-true, int_le-at_most}
use Rattle.scad_geom.specs.declared.point.Edge.{Edge}
use Rattle.scad_geom.specs.Line.{low, high, rise, run, offset, x_at, left_of, lean}
use Rattle.scad_geom.specs.Sign.{is_zero}
use Rattle.scad_geom.specs.Meeting.{straddles, meets}
use Rattle.scad_geom.proofs.Ring.{ring, num, ◌⊕◌, ◌⊖◌, ◌⊗◌, v0, v1, v2, v3, v4, v5, v6, v7, v8, v9}
use Rattle.scad_geom.proofs.Signs.{at_least_mul, at_least_left}
use Rattle.scad_geom.proofs.Heights.{lean_turned}
use Rattle.slice_events.specs.Levels.{share_end, crosses}
use Rattle.slice_events.specs.Boxes.{left_end, right_end, boxes_meet}

-- ---- a point between two others
weighed : (a b u v l h p q x y : ℤ) → (u *ℤ (h -ℤ x) +ℤ v *ℤ (h -ℤ y)) +ℤ
    (a *ℤ (p -ℤ l) +ℤ b *ℤ (q -ℤ l))
    ≡ (h *ℤ (u +ℤ v) -ℤ l *ℤ (a +ℤ b)) +ℤ ((a *ℤ p +ℤ b *ℤ q) -ℤ (u *ℤ x +ℤ v *ℤ y))
weighed a b u v l h p q x y = ring (a ∷ b ∷ u ∷ v ∷ l ∷ h ∷ p ∷ q ∷ x ∷ y ∷ [])
    ((v2 ⊗ (v5 ⊖ v8) ⊕ v3 ⊗ (v5 ⊖ v9)) ⊕ (v0 ⊗ (v6 ⊖ v4) ⊕ v1 ⊗ (v7 ⊖ v4)))
    ((v5 ⊗ (v2 ⊕ v3) ⊖ v4 ⊗ (v0 ⊕ v1)) ⊕ ((v0 ⊗ v6 ⊕ v1 ⊗ v7) ⊖ (v2 ⊗ v8 ⊕ v3 ⊗ v9))) refl

sub_times : (h l k : ℤ) → h *ℤ k -ℤ l *ℤ k ≡ (h -ℤ l) *ℤ k
sub_times h l k = ring (h ∷ l ∷ k ∷ []) (v0 ⊗ v2 ⊖ v1 ⊗ v2) ((v0 ⊖ v1) ⊗ v2) refl

sum_of_four : (s t u v w : ℤ) → pos 0 ≤ℤ s → pos 0 ≤ℤ t → pos 0 ≤ℤ u → pos 0 ≤ℤ v
    → (s +ℤ t) +ℤ (u +ℤ v) ≡ w → pos 0 ≤ℤ w
sum_of_four s t u v w a b c d e = omega (arith, ints)

plus_none : (z m n : ℤ) → m ≡ n → z +ℤ (m -ℤ n) ≡ z
plus_none z m n e = omega (arith, ints)

-- one point is a mean of two that aren't below l, and of two that aren't above h
between : (k a b u v l h p q x y : ℤ) → pos 0 <ℤ k → pos 0 ≤ℤ a → pos 0 ≤ℤ b → pos 0 ≤ℤ u
    → pos 0 ≤ℤ v → a +ℤ b ≡ k → u +ℤ v ≡ k
    → a *ℤ p +ℤ b *ℤ q ≡ u *ℤ x +ℤ v *ℤ y → l ≤ℤ p → l ≤ℤ q → x ≤ℤ h → y ≤ℤ h
    → l ≤ℤ h
between k a b u v l h p q x y kp ap_ bp up vp e f g lp lq xh yh =
    let gap = weighed a b u v l h p q x y
    ∙ plus_none (h *ℤ (u +ℤ v) -ℤ l *ℤ (a +ℤ b)) (a *ℤ p +ℤ b *ℤ q) (u *ℤ x +ℤ v *ℤ y) g
    ∙ ap₂ (λ (m n : ℤ). h *ℤ m -ℤ l *ℤ n) f e
    ∙ sub_times h l k in
    let s : pos 0 ≤ℤ (u *ℤ (h -ℤ x)) = at_least_mul u (h -ℤ x) up (omega (arith, ints)) in
    let t : pos 0 ≤ℤ (v *ℤ (h -ℤ y)) = at_least_mul v (h -ℤ y) vp (omega (arith, ints)) in
    let m : pos 0 ≤ℤ (a *ℤ (p -ℤ l)) = at_least_mul a (p -ℤ l) ap_ (omega (arith, ints)) in
    let n : pos 0 ≤ℤ (b *ℤ (q -ℤ l)) = at_least_mul b (q -ℤ l) bp (omega (arith, ints)) in
    at_most_of_gap l h (at_least_left (h -ℤ l) k kp (sum_of_four _ _ _ _ ((h -ℤ l) *ℤ k) s t m n gap))

-- ---- the common point, by where the ends of each edge lie to the line of the other
abbrev side : ℤ → ℤ → ℤ → ℤ → ℤ → ℤ → ℤ
side a b c d x y = (c -ℤ a) *ℤ y +ℤ ((d -ℤ b) *ℤ a -ℤ (c -ℤ a) *ℤ b) *ℤ pos 1 -ℤ (d -ℤ b) *ℤ x

gap_of_sides : (a b c d p q g h : ℤ) → side a b c d g h -ℤ side a b c d p q
    ≡ (c -ℤ a) *ℤ (h -ℤ q) -ℤ (g -ℤ p) *ℤ (d -ℤ b)
gap_of_sides a b c d p q g h = ring (a ∷ b ∷ c ∷ d ∷ p ∷ q ∷ g ∷ h ∷ [])
    (((v2 ⊖ v0) ⊗ v7 ⊕ ((v3 ⊖ v1) ⊗ v0 ⊖ (v2 ⊖ v0) ⊗ v1) ⊗ num (pos 1) ⊖ (v3 ⊖ v1) ⊗ v6)
    ⊖ ((v2 ⊖ v0) ⊗ v5 ⊕ ((v3 ⊖ v1) ⊗ v0 ⊖ (v2 ⊖ v0) ⊗ v1) ⊗ num (pos 1) ⊖ (v3 ⊖ v1) ⊗ v4))
    ((v2 ⊖ v0) ⊗ (v7 ⊖ v5) ⊖ (v6 ⊖ v4) ⊗ (v3 ⊖ v1)) refl

same_y : (a b c d p q g h : ℤ) → side a b c d g h *ℤ q +ℤ (pos 0 -ℤ side a b c d p q) *ℤ h
    ≡ (pos 0 -ℤ side p q g h c d) *ℤ b +ℤ side p q g h a b *ℤ d
same_y a b c d p q g h = ring (a ∷ b ∷ c ∷ d ∷ p ∷ q ∷ g ∷ h ∷ [])
    (((v2 ⊖ v0) ⊗ v7 ⊕ ((v3 ⊖ v1) ⊗ v0 ⊖ (v2 ⊖ v0) ⊗ v1) ⊗ num (pos 1) ⊖ (v3 ⊖ v1) ⊗ v6) ⊗ v5
    ⊕ (num (pos 0) ⊖ ((v2 ⊖ v0) ⊗ v5 ⊕ ((v3 ⊖ v1) ⊗ v0 ⊖ (v2 ⊖ v0) ⊗ v1) ⊗ num (pos 1)
    ⊖ (v3 ⊖ v1) ⊗ v4)) ⊗ v7)
    ((num (pos 0) ⊖ ((v6 ⊖ v4) ⊗ v3 ⊕ ((v7 ⊖ v5) ⊗ v4 ⊖ (v6 ⊖ v4) ⊗ v5) ⊗ num (pos 1)
    ⊖ (v7 ⊖ v5) ⊗ v2)) ⊗ v1 ⊕ ((v6 ⊖ v4) ⊗ v1 ⊕ ((v7 ⊖ v5) ⊗ v4 ⊖ (v6 ⊖ v4) ⊗ v5)
    ⊗ num (pos 1) ⊖ (v7 ⊖ v5) ⊗ v0) ⊗ v3) refl

same_x : (a b c d p q g h : ℤ) → side a b c d g h *ℤ p +ℤ (pos 0 -ℤ side a b c d p q) *ℤ g
    ≡ (pos 0 -ℤ side p q g h c d) *ℤ a +ℤ side p q g h a b *ℤ c
same_x a b c d p q g h = ring (a ∷ b ∷ c ∷ d ∷ p ∷ q ∷ g ∷ h ∷ [])
    (((v2 ⊖ v0) ⊗ v7 ⊕ ((v3 ⊖ v1) ⊗ v0 ⊖ (v2 ⊖ v0) ⊗ v1) ⊗ num (pos 1) ⊖ (v3 ⊖ v1) ⊗ v6) ⊗ v4
    ⊕ (num (pos 0) ⊖ ((v2 ⊖ v0) ⊗ v5 ⊕ ((v3 ⊖ v1) ⊗ v0 ⊖ (v2 ⊖ v0) ⊗ v1) ⊗ num (pos 1)
    ⊖ (v3 ⊖ v1) ⊗ v4)) ⊗ v6)
    ((num (pos 0) ⊖ ((v6 ⊖ v4) ⊗ v3 ⊕ ((v7 ⊖ v5) ⊗ v4 ⊖ (v6 ⊖ v4) ⊗ v5) ⊗ num (pos 1)
    ⊖ (v7 ⊖ v5) ⊗ v2)) ⊗ v0 ⊕ ((v6 ⊖ v4) ⊗ v1 ⊕ ((v7 ⊖ v5) ⊗ v4 ⊖ (v6 ⊖ v4) ⊗ v5)
    ⊗ num (pos 1) ⊖ (v7 ⊖ v5) ⊗ v0) ⊗ v2) refl

sides : (e f : Edge) → left_of e (high f).x (high f).y (pos 1) -ℤ left_of e (low f).x (low f).y (pos 1) ≡ lean e f
unfolding left_of x_at lean offset run rise
sides e f = gap_of_sides (low e).x (low e).y (high e).x (high e).y (low f).x (low f).y (high f).x (high f).y

common_y : (e f : Edge) → left_of e (high f).x (high f).y (pos 1) *ℤ (low f).y +ℤ
    (pos 0 -ℤ left_of e (low f).x (low f).y (pos 1)) *ℤ (high f).y
    ≡ (pos 0 -ℤ left_of f (high e).x (high e).y (pos 1)) *ℤ (low e).y +ℤ left_of f (low e).x (low e).y (pos 1)
    *ℤ (high e).y
unfolding left_of x_at offset run rise
common_y e f = same_y (low e).x (low e).y (high e).x (high e).y (low f).x (low f).y (high f).x (high f).y

common_x : (e f : Edge) → left_of e (high f).x (high f).y (pos 1) *ℤ (low f).x +ℤ
    (pos 0 -ℤ left_of e (low f).x (low f).y (pos 1)) *ℤ (high f).x
    ≡ (pos 0 -ℤ left_of f (high e).x (high e).y (pos 1)) *ℤ (low e).x +ℤ left_of f (low e).x (low e).y (pos 1)
    *ℤ (high e).x
unfolding left_of x_at offset run rise
common_x e f = same_x (low e).x (low e).y (high e).x (high e).y (low f).x (low f).y (high f).x (high f).y

-- ---- the box of an edge
record InBox (e : Edge) : Type 0 where
  pub low_left : left_end e ≤ℤ (low e).x
  pub high_left : left_end e ≤ℤ (high e).x
  pub low_right : (low e).x ≤ℤ right_end e
  pub high_right : (high e).x ≤ℤ right_end e
  pub up : (low e).y ≤ℤ (high e).y

in_box : (e : Edge) → InBox e
unfolding left_end right_end low high
in_box e = by_test (int_lt e.b.x e.a.x) refl (int_lt e.b.y e.a.y) refl
  where
    by_test : (t : Bool) → int_lt e.b.x e.a.x ≡ t → (u : Bool) → int_lt e.b.y e.a.y ≡ u → InBox e
    by_test true s true t = record {
      low_left = rw (s, t) (omega (arith, ints));
      high_left
          = rw (s, t) (omega (arith, ints));
      low_right = rw (s, t) (omega (arith, ints));
      high_right
          = rw (s, t) (omega (arith, ints));
      up = rw t (omega (arith, ints));
    }
    by_test true s false t = record {
      low_left = rw (s, t) (omega (arith, ints));
      high_left
          = rw (s, t) (omega (arith, ints));
      low_right = rw (s, t) (omega (arith, ints));
      high_right
          = rw (s, t) (omega (arith, ints));
      up = rw t (omega (arith, ints));
    }
    by_test false s true t = record {
      low_left = rw (s, t) (omega (arith, ints));
      high_left
          = rw (s, t) (omega (arith, ints));
      low_right = rw (s, t) (omega (arith, ints));
      high_right
          = rw (s, t) (omega (arith, ints));
      up = rw t (omega (arith, ints));
    }
    by_test false s false t = record {
      low_left = rw (s, t) (omega (arith, ints));
      high_left
          = rw (s, t) (omega (arith, ints));
      low_right = rw (s, t) (omega (arith, ints));
      high_right
          = rw (s, t) (omega (arith, ints));
      up = rw t (omega (arith, ints));
    }

one_is : (a b c d : Bool) → ((a && b) || (c && d)) ≡ true
    → ((a ≡ true) × (b ≡ true)) ⊎ ((c ≡ true) × (d ≡ true))
one_is true true c d h = inl (refl, refl)
one_is true false c d h = inr (and_parts c d h)
one_is false b c d h = inr (and_parts c d h)

-- numbers on both sides of 0, the second greater
apart_up : (s t k : ℤ) → ((int_le s (pos 0) && int_le (pos 0) t) || (int_le (pos 0) s && int_le t (pos 0))) ≡ true
    → t -ℤ s ≡ k → pos 0 <ℤ k → (pos 0 ≤ℤ t) × (pos 0 ≤ℤ (pos 0 -ℤ s))
apart_up s t k h e p =
    elim (one_is (int_le s (pos 0)) (int_le (pos 0) t) (int_le (pos 0) s) (int_le t (pos 0)) h) [
      | inl c ↦ let a = int_le-true s (pos 0) c.0 in let b = int_le-true (pos 0) t c.1 in (b, omega (arith, ints))
      | inr c ↦ let a = int_le-true (pos 0) s c.0 in let b = int_le-true t (pos 0) c.1 in absurd (omega (arith, ints))
    ]

apart_down : (s t k : ℤ) → ((int_le s (pos 0) && int_le (pos 0) t) || (int_le (pos 0) s && int_le t (pos 0)))
    ≡ true → t -ℤ s ≡ neg_ℤ k → pos 0 <ℤ k → (pos 0 ≤ℤ s) × (pos 0 ≤ℤ (pos 0 -ℤ t))
apart_down s t k h e p =
    elim (one_is (int_le s (pos 0)) (int_le (pos 0) t) (int_le (pos 0) s) (int_le t (pos 0)) h) [
      | inl c ↦ let a = int_le-true s (pos 0) c.0 in let b = int_le-true (pos 0) t c.1 in absurd (omega (arith, ints))
      | inr c ↦ let a = int_le-true (pos 0) s c.0 in let b = int_le-true t (pos 0) c.1 in (a, omega (arith, ints))
    ]

sum_as : (s t k : ℤ) → t -ℤ s ≡ k → t +ℤ (pos 0 -ℤ s) ≡ k
sum_as s t k e = omega (arith, ints)

sum_as_turned : (s t k : ℤ) → t -ℤ s ≡ neg_ℤ k → (pos 0 -ℤ t) +ℤ s ≡ k
sum_as_turned s t k e = omega (arith, ints)

four : (a b c d : Bool) → a ≡ true → b ≡ true → c ≡ true → d ≡ true → ((a && b) && (c && d)) ≡ true
four a b c d h k l m = rw (h, k, l, m)

boxes_of_straddling : (e f : Edge) → straddles e f ≡ true → straddles f e ≡ true → pos 0 <ℤ lean e f
    → boxes_meet e f ≡ true
unfolding straddles boxes_meet
boxes_of_straddling e f h k p =
    let s : ℤ = left_of e (low f).x (low f).y (pos 1) in
    let t : ℤ = left_of e (high f).x (high f).y (pos 1) in
    let u : ℤ = left_of f (low e).x (low e).y (pos 1) in
    let v : ℤ = left_of f (high e).x (high e).y (pos 1) in
    let g : t -ℤ s ≡ lean e f = sides e f in
    let g' : v -ℤ u ≡ neg_ℤ (lean e f) = sides f e ∙ lean_turned e f in
    let m = apart_up s t (lean e f) h g p in
    let n = apart_down u v (lean e f) k g' p in
    let x = common_x e f in
    let y = common_y e f in
    let i = in_box e in
    let j = in_box f in
    let a : t +ℤ (pos 0 -ℤ s) ≡ lean e f = sum_as s t (lean e f) g in
    let b : (pos 0 -ℤ v) +ℤ u ≡ lean e f = sum_as_turned u v (lean e f) g' in
    let self = λ (z : ℤ). le_self z in
    four _ _ _ _
    (int_le-at_most (left_end e) (right_end f)
    (between (lean e f) (pos 0 -ℤ v) u t (pos 0 -ℤ s) (left_end e) (right_end f) (low e).x (high e).x (low f).x
    (high f).x p n.1 n.0 m.0 m.1 b a (sym x) i.low_left i.high_left j.low_right j.high_right))
    (int_le-at_most (left_end f) (right_end e)
    (between (lean e f) t (pos 0 -ℤ s) (pos 0 -ℤ v) u (left_end f) (right_end e) (low f).x (high f).x (low e).x
    (high e).x p m.0 m.1 n.1 n.0 a b x j.low_left j.high_left i.low_right i.high_right))
    (int_le-at_most (low e).y (high f).y (between (lean e f) (pos 0 -ℤ v) u t (pos 0 -ℤ s) (low e).y (high f).y
    (low e).y (high e).y (low f).y (high f).y p n.1 n.0 m.0 m.1 b a (sym y) (self (low e).y) i.up j.up
    (self (high f).y)))
    (int_le-at_most (low f).y (high e).y (between (lean e f) t (pos 0 -ℤ s) (pos 0 -ℤ v) u (low f).y (high e).y
    (low f).y (high f).y (low e).y (high e).y p m.0 m.1 n.1 n.0 a b y (self (low f).y) j.up i.up (self (high e).y)))
  where
    le_self : (z : ℤ) → z ≤ℤ z
    le_self z = omega (arith, ints)

pub boxes-turned : (e f : Edge) → boxes_meet e f ≡ boxes_meet f e
unfolding boxes_meet
boxes-turned e f = ap₂ (λ (a b : Bool). a && b)
    (and_comm (int_le (left_end e) (right_end f)) (int_le (left_end f) (right_end e)))
    (and_comm (int_le (low e).y (high f).y) (int_le (low f).y (high e).y))

pub record Straddling (e f : Edge) : Type 0 where
  pub slanted : not (is_zero (lean e f)) ≡ true
  pub first : straddles e f ≡ true
  pub second : straddles f e ≡ true

pub straddling : (e f : Edge) → meets e f ≡ true → Straddling e f
unfolding meets
straddling e f h =
    let a = and_parts (not (is_zero (lean e f))) (straddles e f && straddles f e) h in
    let b = and_parts (straddles e f) (straddles f e) a.1 in
    record { slanted = a.0; first = b.0; second = b.1 }

pub zero_not : (z : ℤ) → not (is_zero z) ≡ true → z ≡ pos 0 → ⊥
zero_not z h e = cc

-- edges that meet have boxes that meet
pub boxes_of_meeting : (e f : Edge) → meets e f ≡ true → boxes_meet e f ≡ true
boxes_of_meeting e f h =
    let s = straddling e f h in
    by_lt_z (pos 0) (lean e f) (λ p. boxes_of_straddling e f s.first s.second p) (λ n.
    by_lt_z (lean e f) (pos 0) (λ m. boxes-turned e f
    ∙ boxes_of_straddling f e s.second s.first
    (subst (λ (z : ℤ). pos 0 <ℤ z) (sym (lean_turned e f)) (omega (arith, ints))))
    (λ m. absurd (zero_not (lean e f) s.slanted (omega (arith, ints)))))

pub boxes_of_crossing : (e f : Edge) → crosses e f ≡ true → boxes_meet e f ≡ true
boxes_of_crossing e f h = boxes_of_meeting e f ((and_parts (meets e f) (not (share_end e f)) h).0)
