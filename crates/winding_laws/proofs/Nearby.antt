-- Near to what is near, and the points of a segment that starts at the same point written otherwise.
use Rattle.std.proofs.Common.{◌≡◌, true, List, [], ◌∷◌, refl, ap, ◌∙◌, arith}
use lib.IntN.{ℤ, pos, ◌+ℤ◌, ◌-ℤ◌, ◌*ℤ◌}
use Rattle.std.proofs.lemmas.Int.{ints}
use Rattle.scad_base.proofs.Products.{positive_product}
use Rattle.scad_geom.specs.Point.{Point, is_same_point}
use Rattle.scad_geom.proofs.Ring.{ring, ◌⊕◌, ◌⊖◌, ◌⊗◌, v0, v1, v2, v3, v4, v5}
use Rattle.scad_geom.proofs.Signs.{at_least_mul}
use Rattle.winding_laws.specs.Region.{HalfPlane, Holds, box, square, AddUp}
use Rattle.winding_laws.specs.Nearness.{seen_from, IsNear, IsPoint}
use Rattle.winding_laws.specs.Points.{IsOn}
use Rattle.winding_laws.proofs.Regions.{scaled, holds_scaled, holds_left, holds_as}
use Rattle.winding_laws.proofs.Sameness.{are_same}
use Rattle.winding_laws.proofs.Weights.{some_weight}
use Rattle.scad_base.proofs.Integers.{at_most_of_less}

-- ---- near to what is near
pub near_on : (r s t : List HalfPlane) → AddUp r s t → (p m b : Point) → IsPoint p → IsPoint m → IsPoint b
    → IsNear r p m → IsNear s m b → IsNear t p b
near_on r s t sum p m b dp dm db h g =
    let first : Point = scaled (seen_from p m) b.d in
    let second : Point = scaled (seen_from m b) p.d in
    let a : Holds r first = holds_scaled r (seen_from p m) b.d (at_most_of_less (pos 0) b.d db) h in
    let c : Holds s (record second { d = first.d }) = holds_as s second (record second { d = first.d }) refl refl
    (weight b.d m.d p.d) (holds_scaled s (seen_from m b) p.d (at_most_of_less (pos 0) p.d dp) g) in
    holds_left t (seen_from p b) m.d dm
    (holds_as t (record { x = first.x +ℤ second.x; y = first.y +ℤ second.y; d = first.d })
    (scaled (seen_from p b) m.d)
    (one_axis p.x p.d m.x m.d b.x b.d) (one_axis p.y p.d m.y m.d b.y b.d) (all_weight b.d m.d p.d)
    (sum.each first.x first.y second.x second.y first.d a c))
  where
    one_axis : (x d y e z f : ℤ) → (y *ℤ d -ℤ x *ℤ e) *ℤ f +ℤ (z *ℤ e -ℤ y *ℤ f) *ℤ d
        ≡ (z *ℤ d -ℤ x *ℤ f) *ℤ e
    one_axis x d y e z f = ring (x ∷ d ∷ y ∷ e ∷ z ∷ f ∷ [])
        ((v2 ⊗ v1 ⊖ v0 ⊗ v3) ⊗ v5 ⊕ (v4 ⊗ v3 ⊖ v2 ⊗ v5) ⊗ v1)
        ((v4 ⊗ v1 ⊖ v0 ⊗ v5) ⊗ v3) refl

    weight : (f e d : ℤ) → (f *ℤ e) *ℤ d ≡ (e *ℤ d) *ℤ f
    weight f e d = ring (f ∷ e ∷ d ∷ []) ((v0 ⊗ v1) ⊗ v2) ((v1 ⊗ v2) ⊗ v0) refl

    all_weight : (f e d : ℤ) → (e *ℤ d) *ℤ f ≡ (f *ℤ d) *ℤ e
    all_weight f e d = ring (f ∷ e ∷ d ∷ []) ((v1 ⊗ v2) ⊗ v0) ((v0 ⊗ v2) ⊗ v1) refl

-- one half and one quarter
pub half_and_quarter : AddUp (square (pos 1)) (box (pos 4) (pos 1)) (box (pos 4) (pos 3))
half_and_quarter = record {
  each = λ x y z w d a b.
      let a0 = a.0 in
      let a1 = a.1.0 in
      let a2 = a.1.1.0 in
      let a3 = a.1.1.1.0 in
      let b0 = b.0 in
      let b1 = b.1.0 in
      let b2 = b.1.1.0 in
      let b3 = b.1.1.1.0 in
      (omega (arith, ints), (omega (arith, ints), (omega (arith, ints), (omega (arith, ints), tt))));
}

-- ---- the same start
pub on_same : (m n b p : Point) → IsPoint m → IsPoint n → is_same_point m n ≡ true → IsOn m b p → IsOn n b p
on_same m n b p dm dn e o =
    let same = are_same m n e in
    record {
      k = o.k *ℤ n.d;
      s = o.s *ℤ m.d;
      t = o.t *ℤ n.d;
      positive = positive_product o.k n.d o.positive dn;
      first = at_least_mul o.s m.d o.first (at_most_of_less (pos 0) m.d dm);
      second = at_least_mul o.t n.d o.second (at_most_of_less (pos 0) n.d dn);
      some = some_weight o.s o.t m.d n.d o.first o.second o.some dm dn;
      x = one_number o.k o.s o.t m.d n.d m.x n.x b.x p.x same.x o.x;
      y = one_number o.k o.s o.t m.d n.d m.y n.y b.y p.y same.y o.y;
      d = one_number o.k o.s o.t m.d n.d m.d n.d b.d p.d (ring (m.d ∷ n.d ∷ []) (v0 ⊗ v1) (v1 ⊗ v0) refl) o.d;
    }
  where
    one_number : (k s t d e x y z p : ℤ) → x *ℤ e ≡ y *ℤ d → k *ℤ p ≡ s *ℤ x +ℤ t *ℤ z
        → (k *ℤ e) *ℤ p ≡ (s *ℤ d) *ℤ y
        +ℤ (t *ℤ e) *ℤ z
    one_number k s t d e x y z p h g =
        ring (k ∷ e ∷ p ∷ []) ((v0 ⊗ v1) ⊗ v2) ((v0 ⊗ v2) ⊗ v1) refl
        ∙ ap (λ (u : ℤ). u *ℤ e) g
        ∙ ring (s ∷ x ∷ t ∷ z ∷ e ∷ []) ((v0 ⊗ v1 ⊕ v2 ⊗ v3) ⊗ v4)
        (v0 ⊗ (v1 ⊗ v4) ⊕ (v2 ⊗ v4) ⊗ v3) refl
        ∙ ap (λ (u : ℤ). s *ℤ u +ℤ (t *ℤ e) *ℤ z) h
        ∙ ring (s ∷ d ∷ y ∷ t ∷ z ∷ e ∷ []) (v0 ⊗ (v2 ⊗ v1) ⊕ (v3 ⊗ v5) ⊗ v4)
        ((v0 ⊗ v1) ⊗ v2 ⊕ (v3 ⊗ v5) ⊗ v4) refl
