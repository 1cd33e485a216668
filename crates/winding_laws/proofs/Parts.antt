-- Points of a segment, points of its parts, and the segment's points again.
use Rattle.std.proofs.Common.{◌≡◌, inl, inr, [], ◌∷◌, refl, sym, ap, ap₂, ◌∙◌, arith}
use lib.IntN.{ℤ, pos, ◌+ℤ◌, ◌-ℤ◌, ◌*ℤ◌}
use lib.Signed.{◌<ℤ◌, ◌≤ℤ◌}
use Rattle.std.proofs.lemmas.Int.{ints, by_lt_z}
use Rattle.scad_base.proofs.Products.{positive_product}
use Rattle.scad_geom.specs.Point.{Point}
use Rattle.scad_geom.specs.Near.{mean}
use Rattle.scad_geom.proofs.Ring.{ring, num, ◌⊕◌, ◌⊖◌, ◌⊗◌, v0, v1, v2, v3, v4, v5, v6, v7, v8, v9}
use Rattle.scad_geom.proofs.Signs.{at_least_mul, sum_at_least, one-mul}
use Rattle.winding_laws.specs.Parts.{PartsAreOn, PartsAreAll}
use Rattle.winding_laws.specs.Points.{IsOn}
use Rattle.scad_base.proofs.Integers.{at_most_of_less, zero_between}
use Rattle.std.proofs.Math.IntN.{+ℤ_comm}

-- a mean is a point of the segment
pub mean_on : (s t : ℤ) → pos 0 ≤ℤ s → pos 0 ≤ℤ t → pos 0 <ℤ (s +ℤ t) → (a b : Point)
    → IsOn a b (mean s t a b)
mean_on s t hs ht o a b =
    record {
      k = pos 1;
      s = s;
      t = t;
      positive = omega (arith, ints);
      first = hs;
      second = ht;
      some = o;
      x = one-mul (s *ℤ a.x +ℤ t *ℤ b.x);
      y = one-mul (s *ℤ a.y +ℤ t *ℤ b.y);
      d = one-mul (s *ℤ a.d +ℤ t *ℤ b.d);
    }

-- read backwards
pub on_turned : (a b p : Point) → IsOn a b p → IsOn b a p
on_turned a b p h =
    let o = h.some in
    record {
      k = h.k;
      s = h.t;
      t = h.s;
      positive = h.positive;
      first = h.second;
      second = h.first;
      some = omega (arith, ints);
      x = h.x ∙ +ℤ_comm (h.s *ℤ a.x) (h.t *ℤ b.x);
      y = h.y ∙ +ℤ_comm (h.s *ℤ a.y) (h.t *ℤ b.y);
      d = h.d ∙ +ℤ_comm (h.s *ℤ a.d) (h.t *ℤ b.d);
    }

-- ---- of a part
-- one number of a point by weights of points that are means by weights themselves
through : (k l m u v s t f g x y p q r : ℤ) → k *ℤ p ≡ s *ℤ x +ℤ t *ℤ y
    → l *ℤ q ≡ f *ℤ x +ℤ g *ℤ y → m *ℤ r ≡ u *ℤ p +ℤ v *ℤ q
    → ((k *ℤ l) *ℤ m) *ℤ r ≡ (s *ℤ (l *ℤ u) +ℤ f *ℤ (k *ℤ v)) *ℤ x +ℤ
    (t *ℤ (l *ℤ u) +ℤ g *ℤ (k *ℤ v)) *ℤ y
through k l m u v s t f g x y p q r hp hq hr =
    ring (k ∷ l ∷ m ∷ r ∷ []) (((v0 ⊗ v1) ⊗ v2) ⊗ v3) ((v0 ⊗ v1) ⊗ (v2 ⊗ v3)) refl
    ∙ ap (λ (z : ℤ). (k *ℤ l) *ℤ z) hr
    ∙ ring (k ∷ l ∷ u ∷ v ∷ p ∷ q ∷ []) ((v0 ⊗ v1) ⊗ (v2 ⊗ v4 ⊕ v3 ⊗ v5))
    ((v1 ⊗ v2) ⊗ (v0 ⊗ v4) ⊕ (v0 ⊗ v3) ⊗
    (v1 ⊗ v5)) refl
    ∙ ap₂ (λ (y z : ℤ). (l *ℤ u) *ℤ y +ℤ (k *ℤ v) *ℤ z) hp hq
    ∙ ring (k ∷ l ∷ u ∷ v ∷ s ∷ t ∷ f ∷ g ∷ x ∷ y ∷ [])
    ((v1 ⊗ v2) ⊗ (v4 ⊗ v8 ⊕ v5 ⊗ v9) ⊕ (v0 ⊗ v3) ⊗ (v6 ⊗ v8 ⊕ v7 ⊗ v9))
    ((v4 ⊗ (v1 ⊗ v2) ⊕ v6 ⊗ (v0 ⊗ v3)) ⊗ v8 ⊕
    (v5 ⊗ (v1 ⊗ v2) ⊕ v7 ⊗ (v0 ⊗ v3)) ⊗ v9) refl

-- their weights have a sum above 0
some_through : (k l u v s t f g : ℤ) → pos 0 <ℤ k → pos 0 <ℤ l → pos 0 ≤ℤ u → pos 0 ≤ℤ v
    → pos 0 <ℤ (u +ℤ v) → pos 0 <ℤ (s +ℤ t) → pos 0 <ℤ (f +ℤ g)
    → pos 0 <ℤ ((s *ℤ (l *ℤ u) +ℤ f *ℤ (k *ℤ v)) +ℤ (t *ℤ (l *ℤ u) +ℤ g *ℤ (k *ℤ v)))
some_through k l u v s t f g kp lp hu hv o st fg =
    let same : (s *ℤ (l *ℤ u) +ℤ f *ℤ (k *ℤ v)) +ℤ (t *ℤ (l *ℤ u) +ℤ g *ℤ (k *ℤ v)) ≡ ((s +ℤ t) *ℤ l) *ℤ u +ℤ
    ((f +ℤ g) *ℤ k) *ℤ v =
    ring (k ∷ l ∷ u ∷ v ∷ s ∷ t ∷ f ∷ g ∷ [])
    ((v4 ⊗ (v1 ⊗ v2) ⊕ v6 ⊗ (v0 ⊗ v3)) ⊕ (v5 ⊗ (v1 ⊗ v2) ⊕ v7 ⊗ (v0 ⊗ v3)))
    (((v4 ⊕ v5) ⊗ v1) ⊗ v2 ⊕ ((v6 ⊕ v7) ⊗ v0) ⊗ v3) refl in
    let m : pos 0 <ℤ ((s +ℤ t) *ℤ l) = positive_product (s +ℤ t) l st lp in
    let n : pos 0 <ℤ ((f +ℤ g) *ℤ k) = positive_product (f +ℤ g) k fg kp in
    let a = at_least_mul ((s +ℤ t) *ℤ l) u (at_most_of_less (pos 0) ((s +ℤ t) *ℤ l) m) hu in
    let b = at_least_mul ((f +ℤ g) *ℤ k) v (at_most_of_less (pos 0) ((f +ℤ g) *ℤ k) n) hv in
    by_lt_z (pos 0) u (λ h. let p = positive_product ((s +ℤ t) *ℤ l) u m h in omega (arith, ints))
    (λ h. let more : pos 0 <ℤ v = omega (arith, ints) in let p = positive_product ((f +ℤ g) *ℤ k) v n more in omega (arith, ints))

pub parts_are_on : PartsAreOn
parts_are_on a b c d p h g o =
    record {
      k = (h.k *ℤ g.k) *ℤ o.k;
      s = h.s *ℤ (g.k *ℤ o.s) +ℤ g.s *ℤ (h.k *ℤ o.t);
      t = h.t *ℤ (g.k *ℤ o.s) +ℤ g.t *ℤ (h.k *ℤ o.t);
      positive = positive_product (h.k *ℤ g.k) o.k (positive_product h.k g.k h.positive g.positive) o.positive;
      first = weight h.s g.s h.first g.first;
      second = weight h.t g.t h.second g.second;
      some = some_through h.k g.k o.s o.t h.s h.t g.s g.t h.positive g.positive o.first o.second o.some h.some g.some;
      x = through h.k g.k o.k o.s o.t h.s h.t g.s g.t a.x b.x c.x d.x p.x h.x g.x o.x;
      y = through h.k g.k o.k o.s o.t h.s h.t g.s g.t a.y b.y c.y d.y p.y h.y g.y o.y;
      d = through h.k g.k o.k o.s o.t h.s h.t g.s g.t a.d b.d c.d d.d p.d h.d g.d o.d;
    }
  where
    weight : (s f : ℤ) → pos 0 ≤ℤ s → pos 0 ≤ℤ f
        → pos 0 ≤ℤ (s *ℤ (g.k *ℤ o.s) +ℤ f *ℤ (h.k *ℤ o.t))
    weight s f hs hf =
        sum_at_least (s *ℤ (g.k *ℤ o.s)) (f *ℤ (h.k *ℤ o.t))
        (at_least_mul s (g.k *ℤ o.s) hs (at_least_mul g.k o.s (at_most_of_less (pos 0) g.k g.positive) o.first))
        (at_least_mul f (h.k *ℤ o.t) hf (at_least_mul h.k o.t (at_most_of_less (pos 0) h.k h.positive) o.second))

-- ---- of the first or of the second part
nearer_start : (k s t l f g x y m p : ℤ) → k *ℤ m ≡ s *ℤ x +ℤ t *ℤ y
    → l *ℤ p ≡ f *ℤ x +ℤ g *ℤ y
    → (t *ℤ l) *ℤ p ≡ (f *ℤ t -ℤ s *ℤ g) *ℤ x +ℤ (g *ℤ k) *ℤ m
nearer_start k s t l f g x y m p hm hp =
    ring (t ∷ l ∷ p ∷ []) ((v0 ⊗ v1) ⊗ v2) (v0 ⊗ (v1 ⊗ v2)) refl
    ∙ ap (λ (z : ℤ). t *ℤ z) hp
    ∙ ring (t ∷ f ∷ x ∷ g ∷ y ∷ s ∷ []) (v0 ⊗ (v1 ⊗ v2 ⊕ v3 ⊗ v4))
    ((v1 ⊗ v0 ⊖ v5 ⊗ v3) ⊗ v2 ⊕ v3 ⊗ (v5 ⊗ v2 ⊕ v0 ⊗ v4))
    refl
    ∙ ap (λ (z : ℤ). (f *ℤ t -ℤ s *ℤ g) *ℤ x +ℤ g *ℤ z) (sym hm)
    ∙ ring (f ∷ t ∷ s ∷ g ∷ x ∷ k ∷ m ∷ []) ((v0 ⊗ v1 ⊖ v2 ⊗ v3) ⊗ v4 ⊕ v3 ⊗ (v5 ⊗ v6))
    ((v0 ⊗ v1 ⊖ v2 ⊗ v3) ⊗ v4 ⊕ (v3 ⊗ v5) ⊗ v6) refl

nearer_end : (k s t l f g x y m p : ℤ) → k *ℤ m ≡ s *ℤ x +ℤ t *ℤ y → l *ℤ p ≡ f *ℤ x +ℤ g *ℤ y
    → (s *ℤ l) *ℤ p ≡ (f *ℤ k) *ℤ m +ℤ (s *ℤ g -ℤ f *ℤ t) *ℤ y
nearer_end k s t l f g x y m p hm hp =
    ring (s ∷ l ∷ p ∷ []) ((v0 ⊗ v1) ⊗ v2) (v0 ⊗ (v1 ⊗ v2)) refl
    ∙ ap (λ (z : ℤ). s *ℤ z) hp
    ∙ ring (s ∷ f ∷ x ∷ g ∷ y ∷ t ∷ []) (v0 ⊗ (v1 ⊗ v2 ⊕ v3 ⊗ v4))
    (v1 ⊗ (v0 ⊗ v2 ⊕ v5 ⊗ v4) ⊕ (v0 ⊗ v3 ⊖ v1 ⊗ v5) ⊗ v4)
    refl
    ∙ ap (λ (z : ℤ). f *ℤ z +ℤ (s *ℤ g -ℤ f *ℤ t) *ℤ y) (sym hm)
    ∙ ring (f ∷ k ∷ m ∷ s ∷ g ∷ t ∷ y ∷ []) (v0 ⊗ (v1 ⊗ v2) ⊕ (v3 ⊗ v4 ⊖ v0 ⊗ v5) ⊗ v6)
    ((v0 ⊗ v1) ⊗ v2 ⊕ (v3 ⊗ v4 ⊖ v0 ⊗ v5) ⊗ v6) refl

at_start : (l f g x y p m : ℤ) → g ≡ pos 0 → l *ℤ p ≡ f *ℤ x +ℤ g *ℤ y
    → l *ℤ p ≡ f *ℤ x +ℤ pos 0 *ℤ m
at_start l f g x y p m h e = e ∙ ap (λ (z : ℤ). f *ℤ x +ℤ z *ℤ y) h ∙ nothing (f *ℤ x) y m
  where
    nothing : (z y m : ℤ) → z +ℤ pos 0 *ℤ y ≡ z +ℤ pos 0 *ℤ m
    nothing z y m = ring (z ∷ y ∷ m ∷ []) (v0 ⊕ num (pos 0) ⊗ v1) (v0 ⊕ num (pos 0) ⊗ v2) refl

module _ (a b m p : Point) (h : IsOn a b m) (g : IsOn a b p) where
  on_second : (g.s *ℤ h.t) <ℤ (h.s *ℤ g.t) → IsOn m b p
  on_second o =
      let least : pos 0 ≤ℤ (g.s *ℤ h.t) = at_least_mul g.s h.t g.first h.second in
      let s_positive : pos 0 <ℤ h.s = first_positive h.s g.t h.first (omega (arith, ints)) in
      let u_least : pos 0 ≤ℤ (g.s *ℤ h.k) = at_least_mul g.s h.k g.first (at_most_of_less (pos 0) h.k h.positive) in
      record {
        k = h.s *ℤ g.k;
        s = g.s *ℤ h.k;
        t = h.s *ℤ g.t -ℤ g.s *ℤ h.t;
        positive = positive_product h.s g.k s_positive g.positive;
        first = u_least;
        second = omega (arith, ints);
        some = omega (arith, ints);
        x = nearer_end h.k h.s h.t g.k g.s g.t a.x b.x m.x p.x h.x g.x;
        y = nearer_end h.k h.s h.t g.k g.s g.t a.y b.y m.y p.y h.y g.y;
        d = nearer_end h.k h.s h.t g.k g.s g.t a.d b.d m.d p.d h.d g.d;
      }
    where
      first_positive : (s t : ℤ) → pos 0 ≤ℤ s → pos 0 <ℤ (s *ℤ t) → pos 0 <ℤ s
      first_positive s t l o = by_lt_z (pos 0) s (λ k. k) (λ k. absurd (none s t (zero_between s l k) o))
        where
          none : (s t : ℤ) → s ≡ pos 0 → pos 0 <ℤ (s *ℤ t) → ⊥
          none s t e o =
              let z : s *ℤ t ≡ pos 0 = ap (λ (y : ℤ). y *ℤ t) e ∙ ring (t ∷ []) (num (pos 0) ⊗ v0) (num (pos 0)) refl in
              omega (arith, ints)

  on_first : (h.s *ℤ g.t) ≤ℤ (g.s *ℤ h.t) → IsOn a m p
  on_first o =
      by_lt_z (pos 0) h.t inner
      (λ n.
      let t_zero : h.t ≡ pos 0 = zero_between h.t h.second n in
      let hs = h.some in
      let s_positive : pos 0 <ℤ h.s = omega (arith, ints) in
      let none : g.s *ℤ h.t ≡ pos 0 = ap (λ (z : ℤ). g.s *ℤ z) t_zero ∙ ring (g.s ∷ []) (v0 ⊗ num (pos 0)) (num (pos 0))
      refl in
      by_lt_z (pos 0) g.t (λ k. let q = positive_product h.s g.t s_positive k in absurd (omega (arith, ints))) (λ k. same_start (zero_between g.t g.second k)))
    where
      same_start : g.t ≡ pos 0 → IsOn a m p
      same_start e =
          let o = g.some in
          record {
            k = g.k;
            s = g.s;
            t = pos 0;
            positive = g.positive;
            first = g.first;
            second = omega (arith, ints);
            some = omega (arith, ints);
            x = at_start g.k g.s g.t a.x b.x p.x m.x e g.x;
            y = at_start g.k g.s g.t a.y b.y p.y m.y e g.y;
            d = at_start g.k g.s g.t a.d b.d p.d m.d e g.d;
          }

      some_weight : pos 0 <ℤ h.t → pos 0 ≤ℤ (g.s *ℤ h.t -ℤ h.s *ℤ g.t)
          → pos 0 <ℤ ((g.s *ℤ h.t -ℤ h.s *ℤ g.t) +ℤ g.t *ℤ h.k)
      some_weight t l = by_lt_z (pos 0) g.t (λ k. let q = positive_product g.t h.k k h.positive in omega (arith, ints))
          (λ k.
          let e : g.t ≡ pos 0 = zero_between g.t g.second k in
          let o = g.some in
          let s_positive : pos 0 <ℤ g.s = omega (arith, ints) in
          let q = positive_product g.s h.t s_positive t in
          let y : h.s *ℤ g.t ≡ pos 0 = ap (λ (z : ℤ). h.s *ℤ z) e ∙ ring (h.s ∷ []) (v0 ⊗ num (pos 0)) (num (pos 0))
          refl in
          let z : g.t *ℤ h.k ≡ pos 0 = ap (λ (z : ℤ). z *ℤ h.k) e ∙ ring (h.k ∷ []) (num (pos 0) ⊗ v0) (num (pos 0))
          refl in
          omega (arith, ints))

      inner : pos 0 <ℤ h.t → IsOn a m p
      inner t =
          let l : pos 0 ≤ℤ (g.s *ℤ h.t -ℤ h.s *ℤ g.t) = omega (arith, ints) in
          record {
            k = h.t *ℤ g.k;
            s = g.s *ℤ h.t -ℤ h.s *ℤ g.t;
            t = g.t *ℤ h.k;
            positive = positive_product h.t g.k t g.positive;
            first = l;
            second = at_least_mul g.t h.k g.second (at_most_of_less (pos 0) h.k h.positive);
            some = some_weight t l;
            x = nearer_start h.k h.s h.t g.k g.s g.t a.x b.x m.x p.x h.x g.x;
            y = nearer_start h.k h.s h.t g.k g.s g.t a.y b.y m.y p.y h.y g.y;
            d = nearer_start h.k h.s h.t g.k g.s g.t a.d b.d m.d p.d h.d g.d;
          }

pub parts_are_all : PartsAreAll
parts_are_all a b m p h g = by_lt_z (g.s *ℤ h.t) (h.s *ℤ g.t) (λ o. inr (on_second a b m p h g o))
    (λ o. inl (on_first a b m p h g o))
