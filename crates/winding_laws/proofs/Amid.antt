-- A point amid a segment lies on its line, strictly between the ends.
use Rattle.std.proofs.Common.{◌≡◌, inl, inr, [], ◌∷◌, refl, sym, ap, ap₂, ◌∙◌, arith}
use lib.IntN.{ℤ, pos, ◌+ℤ◌, ◌-ℤ◌, ◌*ℤ◌, *ℤ_comm}
use lib.Signed.{◌<ℤ◌}
use Rattle.std.proofs.lemmas.Int.{ints, by_lt_z}
use Rattle.scad_base.proofs.Products.{positive_product, zero_factor}
use Rattle.scad_geom.specs.Point.{Point, is_same_point}
use Rattle.scad_geom.specs.Winding.{side_by}
use Rattle.scad_geom.proofs.Ring.{ring, num, ◌⊕◌, ◌⊖◌, ◌⊗◌, v0, v1, v2, v3, v4, v5, v6, v7, v8, v9, v10, v11}
use Rattle.scad_geom.proofs.Signs.{climbs, falls}
use Rattle.winding_laws.specs.Nearness.{IsPoint}
use Rattle.winding_laws.specs.Points.{IsOn, IsBetween}
use Rattle.winding_laws.specs.Approach.{IsAmid, AmidIsBetween}
use Rattle.winding_laws.proofs.Sameness.{same_by}
use Rattle.winding_laws.proofs.Between.{rise, bend, bend_side, exchanged}
use Rattle.scad_base.proofs.Integers.{less_of_gap, less_of_fall, equal_of_gap}
use Rattle.std.proofs.lemmas.Bool.{both_ways}

-- ---- a point amid a segment lies between the ends
rise_first : (a b p : Point) (o : IsOn a b p) → o.k *ℤ rise a p ≡ o.t *ℤ rise a b
rise_first a b p o =
    ring (o.k ∷ p.y ∷ a.d ∷ a.y ∷ p.d ∷ []) (v0 ⊗ (v1 ⊗ v2 ⊖ v3 ⊗ v4))
    ((v0 ⊗ v1) ⊗ v2 ⊖ v3 ⊗ (v0 ⊗ v4)) refl
    ∙ ap₂ (λ (y z : ℤ). y *ℤ a.d -ℤ a.y *ℤ z) o.y o.d
    ∙ ring (o.s ∷ o.t ∷ a.y ∷ a.d ∷ b.y ∷ b.d ∷ [])
    ((v0 ⊗ v2 ⊕ v1 ⊗ v4) ⊗ v3 ⊖ v2 ⊗ (v0 ⊗ v3 ⊕ v1 ⊗ v5))
    (v1 ⊗ (v4 ⊗ v3 ⊖ v2 ⊗ v5)) refl

rise_second : (a b p : Point) (o : IsOn a b p) → o.k *ℤ rise p b ≡ o.s *ℤ rise a b
rise_second a b p o =
    ring (o.k ∷ p.y ∷ b.d ∷ b.y ∷ p.d ∷ []) (v0 ⊗ (v3 ⊗ v4 ⊖ v1 ⊗ v2))
    (v3 ⊗ (v0 ⊗ v4) ⊖ (v0 ⊗ v1) ⊗ v2) refl
    ∙ ap₂ (λ (y z : ℤ). b.y *ℤ z -ℤ y *ℤ b.d) o.y o.d
    ∙ ring (o.s ∷ o.t ∷ a.y ∷ a.d ∷ b.y ∷ b.d ∷ [])
    (v4 ⊗ (v0 ⊗ v3 ⊕ v1 ⊗ v5) ⊖ (v0 ⊗ v2 ⊕ v1 ⊗ v4) ⊗ v5)
    (v0 ⊗ (v4 ⊗ v3 ⊖ v2 ⊗ v5)) refl

bend_none : (a b p : Point) (o : IsOn a b p) → bend a b p *ℤ o.k ≡ pos 0
bend_none a b p o =
    ring (rise p b ∷ a.x ∷ rise a p ∷ b.x ∷ rise a b ∷ p.x ∷ o.k ∷ [])
    ((v0 ⊗ v1 ⊕ v2 ⊗ v3 ⊖ v4 ⊗ v5) ⊗ v6)
    ((v6 ⊗ v0) ⊗ v1 ⊕ (v6 ⊗ v2) ⊗ v3 ⊖ v4 ⊗ (v6 ⊗ v5)) refl
    ∙ ap₂ (λ (y z : ℤ). y *ℤ a.x +ℤ z *ℤ b.x -ℤ rise a b *ℤ (o.k *ℤ p.x)) (rise_second a b p o)
    (rise_first a b p o)
    ∙ ap (λ (y : ℤ). (o.s *ℤ rise a b) *ℤ a.x +ℤ (o.t *ℤ rise a b) *ℤ b.x -ℤ rise a b *ℤ y) o.x
    ∙ ring (o.s ∷ o.t ∷ rise a b ∷ a.x ∷ b.x ∷ [])
    ((v0 ⊗ v2) ⊗ v3 ⊕ (v1 ⊗ v2) ⊗ v4 ⊖ v2 ⊗ (v0 ⊗ v3 ⊕ v1 ⊗ v4))
    (num (pos 0)) refl

pub on_line : (a b p : Point) → IsPoint a → IsOn a b p → side_by p a b ≡ pos 0
on_line a b p da o =
    sym (bend_side a b p)
    ∙ ap (λ (z : ℤ). z *ℤ a.d) (zero_factor (bend a b p) o.k o.positive (bend_none a b p o))
    ∙ ring (a.d ∷ []) (num (pos 0) ⊗ v0) (num (pos 0)) refl

stays : (k r t z : ℤ) → pos 0 <ℤ k → k *ℤ r ≡ t *ℤ z → z ≡ pos 0 → r ≡ pos 0
stays k r t z kp e h = zero_factor r k kp (*ℤ_comm r k ∙ e ∙ ap (λ (y : ℤ). t *ℤ y) h
    ∙ ring (t ∷ []) (v0 ⊗ num (pos 0))
    (num (pos 0)) refl)

-- by height, where the ends differ in height
by_height : {A : Type 0} (a b p : Point) → IsAmid a b p → (IsBetween (λ q. q.y) a p b → A)
    → (rise a b ≡ pos 0 → A) → A
by_height {A = A} a b p h found level =
    let o = h.on in
    by_lt_z (pos 0) (rise a b)
    (λ up. found (inl (
      less_of_gap (a.y *ℤ p.d) (p.y *ℤ a.d) (climbs o.k o.t (rise a p) (rise a b) o.positive h.second
          (rise_first a b p o) up),
      less_of_gap (p.y *ℤ b.d) (b.y *ℤ p.d) (climbs o.k o.s (rise p b) (rise a b) o.positive h.first
          (rise_second a b p o) up),
    )))
    (λ m. by_lt_z (rise a b) (pos 0)
    (λ down. found (inr (
      less_of_fall (b.y *ℤ p.d) (p.y *ℤ b.d) (falls o.k o.s (rise p b) (rise a b) o.positive h.first
          (rise_second a b p o) down),
      less_of_fall (p.y *ℤ a.d) (a.y *ℤ p.d) (falls o.k o.t (rise a p) (rise a b) o.positive h.second
          (rise_first a b p o) down),
    )))
    (λ l. level (omega (arith, ints))))

amid_exchanged : (a b p : Point) → IsAmid a b p → IsAmid (exchanged a) (exchanged b) (exchanged p)
amid_exchanged a b p h =
    let o = h.on in
    record {
      on = record {
        k = o.k;
        s = o.s;
        t = o.t;
        positive = o.positive;
        first = o.first;
        second = o.second;
        some =
            o.some;
        x = o.y;
        y = o.x;
        d = o.d;
      };
      first = h.first;
      second = h.second;
    }

pub amid_is_between : AmidIsBetween
amid_is_between a b p da db differ h = (
  on_line a b p da h.on,
  by_height a b p h (λ f. inl f)
      (λ level. by_height (exchanged a) (exchanged b) (exchanged p) (amid_exchanged a b p h)
      (λ f. inr (
        sym (equal_of_gap (p.y *ℤ a.d) (a.y *ℤ p.d) (stays h.on.k (rise a p) h.on.t (rise a b) h.on.positive
            (rise_first a b p h.on) level)),
        sym (equal_of_gap (b.y *ℤ p.d) (p.y *ℤ b.d) (stays h.on.k (rise p b) h.on.s (rise a b) h.on.positive
            (rise_second a b p h.on) level)),
        f,
      ))
      (λ place. absurd (both_ways (is_same_point a b) differ
      (same_by a b (record {
        x = sym (equal_of_gap (b.x *ℤ a.d) (a.x *ℤ b.d) place);
        y = sym (equal_of_gap (b.y *ℤ a.d) (a.y *ℤ b.d) level);
      }))))),
)

-- ---- three points of one segment lie on one line
abbrev turn_of : ℤ → ℤ → ℤ → ℤ → ℤ → ℤ → ℤ → ℤ → ℤ → ℤ
turn_of px py pd qx qy qd rx ry rd = (ry *ℤ qd -ℤ qy *ℤ rd) *ℤ px +ℤ (qy *ℤ pd -ℤ py *ℤ qd) *ℤ rx -ℤ
    (ry *ℤ pd -ℤ py *ℤ rd) *ℤ qx

scaled_turn : (k l m px py pd qx qy qd rx ry rd : ℤ) → turn_of px py pd qx qy qd rx ry rd *ℤ (k *ℤ (l *ℤ m))
    ≡ turn_of (k *ℤ px) (k *ℤ py) (k *ℤ pd) (l *ℤ qx) (l *ℤ qy) (l *ℤ qd) (m *ℤ rx) (m *ℤ ry)
    (m *ℤ rd)
scaled_turn k l m px py pd qx qy qd rx ry rd =
    ring (k ∷ l ∷ m ∷ px ∷ py ∷ pd ∷ qx ∷ qy ∷ qd ∷ rx ∷ ry ∷ rd ∷ [])
    (((v10 ⊗ v8 ⊖ v7 ⊗ v11) ⊗ v3 ⊕ (v7 ⊗ v5 ⊖ v4 ⊗ v8) ⊗ v9 ⊖ (v10 ⊗ v5 ⊖ v4 ⊗ v11) ⊗ v6)
    ⊗ (v0 ⊗ (v1 ⊗ v2)))
    (((v2 ⊗ v10) ⊗ (v1 ⊗ v8) ⊖ (v1 ⊗ v7) ⊗ (v2 ⊗ v11)) ⊗ (v0 ⊗ v3)
    ⊕ ((v1 ⊗ v7) ⊗ (v0 ⊗ v5) ⊖ (v0 ⊗ v4) ⊗ (v1 ⊗ v8)) ⊗
    (v2 ⊗ v9)
    ⊖ ((v2 ⊗ v10) ⊗ (v0 ⊗ v5) ⊖ (v0 ⊗ v4) ⊗ (v2 ⊗ v11)) ⊗ (v1 ⊗ v6)) refl

-- by weights of two points
no_turn : (s t f g h w ax ay ad bx by bd : ℤ)
    → turn_of (s *ℤ ax +ℤ t *ℤ bx) (s *ℤ ay +ℤ t *ℤ by) (s *ℤ ad +ℤ t *ℤ bd)
    (f *ℤ ax +ℤ g *ℤ bx) (f *ℤ ay +ℤ g *ℤ by) (f *ℤ ad +ℤ g *ℤ bd)
    (h *ℤ ax +ℤ w *ℤ bx) (h *ℤ ay +ℤ w *ℤ by) (h *ℤ ad +ℤ w *ℤ bd) ≡ pos 0
no_turn s t f g h w ax ay ad bx by bd =
    ring (s ∷ t ∷ f ∷ g ∷ h ∷ w ∷ ax ∷ ay ∷ ad ∷ bx ∷ by ∷ bd ∷ [])
    (((v4 ⊗ v7 ⊕ v5 ⊗ v10) ⊗ (v2 ⊗ v8 ⊕ v3 ⊗ v11) ⊖ (v2 ⊗ v7 ⊕ v3 ⊗ v10)
    ⊗ (v4 ⊗ v8 ⊕ v5 ⊗ v11)) ⊗ (v0 ⊗ v6 ⊕ v1 ⊗ v9)
    ⊕ ((v2 ⊗ v7 ⊕ v3 ⊗ v10) ⊗ (v0 ⊗ v8 ⊕ v1 ⊗ v11) ⊖ (v0 ⊗ v7 ⊕ v1 ⊗ v10)
    ⊗ (v2 ⊗ v8 ⊕ v3 ⊗ v11)) ⊗ (v4 ⊗ v6 ⊕ v5 ⊗ v9)
    ⊖ ((v4 ⊗ v7 ⊕ v5 ⊗ v10) ⊗ (v0 ⊗ v8 ⊕ v1 ⊗ v11) ⊖ (v0 ⊗ v7 ⊕ v1 ⊗ v10)
    ⊗ (v4 ⊗ v8 ⊕ v5 ⊗ v11)) ⊗ (v2 ⊗ v6 ⊕ v3 ⊗ v9))
    (num (pos 0)) refl

pub three_on_line : (a b p q r : Point) → IsOn a b p → IsOn a b q → IsOn a b r → side_by q p r ≡ pos 0
three_on_line a b p q r hp hq hr =
    let k : ℤ = hp.k *ℤ (hq.k *ℤ hr.k) in
    let more : pos 0 <ℤ k = positive_product hp.k (hq.k *ℤ hr.k) hp.positive (positive_product hq.k hr.k hq.positive
    hr.positive) in
    let none : turn_of (hp.k *ℤ p.x) (hp.k *ℤ p.y) (hp.k *ℤ p.d) (hq.k *ℤ q.x) (hq.k *ℤ q.y) (hq.k *ℤ q.d) (hr.k *ℤ r.x)
    (hr.k *ℤ r.y) (hr.k *ℤ r.d) ≡ pos 0 =
    rw (hp.x, hp.y, hp.d, hq.x, hq.y, hq.d, hr.x, hr.y, hr.d) (no_turn hp.s hp.t hq.s hq.t hr.s hr.t a.x a.y a.d b.x b.y
    b.d) in
    sym (bend_side p r q)
    ∙ ap (λ (z : ℤ). z *ℤ p.d) (zero_factor (bend p r q) k more
    (scaled_turn hp.k hq.k hr.k p.x p.y p.d q.x q.y q.d r.x
    r.y r.d ∙ none))
    ∙ ring (p.d ∷ []) (num (pos 0) ⊗ v0) (num (pos 0)) refl
