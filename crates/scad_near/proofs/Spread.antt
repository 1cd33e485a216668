-- The difference of a mean of two points and a mean of two others, by whole weights with one sum.
use Rattle.std.proofs.Common.{◌≡◌, refl, ap, ◌∙◌, subst, arith, ℤ, pos, ◌+ℤ◌, ◌-ℤ◌, ◌*ℤ◌, ◌<ℤ◌}
use lib.Signed.{◌≤ℤ◌}
use Rattle.std.specs.Prelude.{[], ◌∷◌}
use Rattle.std.proofs.lemmas.Int.{ints}
use Rattle.scad_base.proofs.Products.{positive_product}
use Rattle.scad_geom.specs.declared.point.Pt.{Pt}
use Rattle.scad_geom.specs.Point.{whole, halves}
use Rattle.scad_geom.specs.Near.{mean}
use Rattle.scad_geom.proofs.Signs.{at_least_mul}
use Rattle.scad_geom.proofs.Ring.{ring, num, ◌⊕◌, ◌⊖◌, ◌⊗◌, v0, v1, v2, v3, v4, v5, v6, v7}
use Rattle.winding_laws.specs.Region.{HoldsOrigin}
use Rattle.scad_ring.specs.Octagon.{octagon}
use Rattle.scad_ring.specs.Nearness.{Closed, IsWithinRegion}
use Rattle.scad_near.proofs.RegionTurns.{Held, held_times, held_nearer}

-- how far the mean of r and z by k and l is past that of p and q by s and t, times the sum of the weights
abbrev pub spread : ℤ → ℤ → ℤ → ℤ → ℤ → ℤ → ℤ → ℤ → ℤ
spread s t k l p q r z = (k *ℤ r +ℤ l *ℤ z) -ℤ (s *ℤ p +ℤ t *ℤ q)

-- weights by which the points of two segments are near
pub record Weights (h w : ℤ) (a b c d : Pt) (s t k l : ℤ) : Type 0 where
  pub first : pos 0 ≤ℤ s
  pub second : pos 0 ≤ℤ t
  pub third : pos 0 ≤ℤ k
  pub fourth : pos 0 ≤ℤ l
  pub same : s +ℤ t ≡ k +ℤ l
  pub some : pos 0 <ℤ (s +ℤ t)
  pub held : Held (octagon h w) (spread s t k l a.x b.x c.x d.x) (spread s t k l a.y b.y c.y d.y) (s +ℤ t)

-- a change of the weights that leaves the difference of the points as it is
pub record Way (a b c d : Pt) (s t k l : ℤ) : Type 0 where
  pub same : s +ℤ t ≡ k +ℤ l
  pub from : pos 0 ≤ℤ (s +ℤ t)
  pub x : spread s t k l a.x b.x c.x d.x ≡ pos 0
  pub y : spread s t k l a.y b.y c.y d.y ≡ pos 0

-- ---- weights of near points
seen_is : (s t k l p q r z : ℤ)
    → (k *ℤ r +ℤ l *ℤ z) *ℤ (s *ℤ pos 1 +ℤ t *ℤ pos 1) -ℤ (s *ℤ p +ℤ t *ℤ q) *ℤ (k *ℤ pos 1 +ℤ l *ℤ pos 1)
    ≡ spread (s *ℤ (k +ℤ l)) (t *ℤ (k +ℤ l)) (k *ℤ (s +ℤ t)) (l *ℤ (s +ℤ t)) p q r z
seen_is s t k l p q r z = ring (s ∷ t ∷ k ∷ l ∷ p ∷ q ∷ r ∷ z ∷ [])
    ((v2 ⊗ v6 ⊕ v3 ⊗ v7) ⊗ (v0 ⊗ num (pos 1) ⊕ v1 ⊗ num (pos 1)) ⊖ (v0 ⊗ v4 ⊕ v1 ⊗ v5) ⊗
    (v2 ⊗ num (pos 1) ⊕ v3 ⊗ num (pos 1)))
    (((v2 ⊗ (v0 ⊕ v1)) ⊗ v6 ⊕ (v3 ⊗ (v0 ⊕ v1)) ⊗ v7) ⊖ ((v0 ⊗ (v2 ⊕ v3)) ⊗ v4 ⊕ (v1 ⊗ (v2 ⊕ v3)) ⊗ v5)) refl

divisor_is : (s t k l : ℤ)
    → (k *ℤ pos 1 +ℤ l *ℤ pos 1) *ℤ (s *ℤ pos 1 +ℤ t *ℤ pos 1) ≡ s *ℤ (k +ℤ l) +ℤ t *ℤ (k +ℤ l)
divisor_is s t k l = ring (s ∷ t ∷ k ∷ l ∷ [])
    ((v2 ⊗ num (pos 1) ⊕ v3 ⊗ num (pos 1)) ⊗ (v0 ⊗ num (pos 1) ⊕ v1 ⊗ num (pos 1)))
    (v0 ⊗ (v2 ⊕ v3) ⊕ v1 ⊗ (v2 ⊕ v3)) refl

sums_are : (s t k l : ℤ) → s *ℤ (k +ℤ l) +ℤ t *ℤ (k +ℤ l) ≡ k *ℤ (s +ℤ t) +ℤ l *ℤ (s +ℤ t)
sums_are s t k l = ring (s ∷ t ∷ k ∷ l ∷ []) (v0 ⊗ (v2 ⊕ v3) ⊕ v1 ⊗ (v2 ⊕ v3)) (v2 ⊗ (v0 ⊕ v1) ⊕ v3 ⊗ (v0 ⊕ v1)) refl

sum_is : (s t w : ℤ) → s *ℤ w +ℤ t *ℤ w ≡ (s +ℤ t) *ℤ w
sum_is s t w = ring (s ∷ t ∷ w ∷ []) (v0 ⊗ v2 ⊕ v1 ⊗ v2) ((v0 ⊕ v1) ⊗ v2) refl

module _ (h w : ℤ) (a b c d : Pt) where
  pub weights_if_near : (s t k l : ℤ) → pos 0 ≤ℤ s → pos 0 ≤ℤ t → pos 0 <ℤ (s +ℤ t) → pos 0 ≤ℤ k → pos 0 ≤ℤ l
      → pos 0 <ℤ (k +ℤ l)
      → IsWithinRegion Closed (octagon h w) (mean s t (whole a) (whole b)) (mean k l (whole c) (whole d))
      → Weights h w a b c d (s *ℤ (k +ℤ l)) (t *ℤ (k +ℤ l)) (k *ℤ (s +ℤ t)) (l *ℤ (s +ℤ t))
  weights_if_near s t k l hs ht st hk hl kl near =
      let p = positive_product (s +ℤ t) (k +ℤ l) st kl in
      let e = sum_is s t (k +ℤ l) in
      record {
        first = at_least_mul s (k +ℤ l) hs (omega (arith, ints, kl));
        second = at_least_mul t (k +ℤ l) ht (omega (arith, ints, kl));
        third = at_least_mul k (s +ℤ t) hk (omega (arith, ints, st));
        fourth = at_least_mul l (s +ℤ t) hl (omega (arith, ints, st));
        same = sums_are s t k l;
        some = omega (arith, ints, p, e);
        held = subst (λ (x : ℤ). Held (octagon h w) x
            (spread (s *ℤ (k +ℤ l)) (t *ℤ (k +ℤ l)) (k *ℤ (s +ℤ t)) (l *ℤ (s +ℤ t)) a.y b.y c.y d.y)
            (s *ℤ (k +ℤ l) +ℤ t *ℤ (k +ℤ l))) (seen_is s t k l a.x b.x c.x d.x)
            (subst (λ (y : ℤ). Held (octagon h w)
            ((k *ℤ c.x +ℤ l *ℤ d.x) *ℤ (s *ℤ pos 1 +ℤ t *ℤ pos 1) -ℤ (s *ℤ a.x +ℤ t *ℤ b.x) *ℤ (k *ℤ pos 1 +ℤ l *ℤ pos 1))
            y (s *ℤ (k +ℤ l) +ℤ t *ℤ (k +ℤ l))) (seen_is s t k l a.y b.y c.y d.y)
            (subst (λ (e : ℤ). Held (octagon h w)
            ((k *ℤ c.x +ℤ l *ℤ d.x) *ℤ (s *ℤ pos 1 +ℤ t *ℤ pos 1) -ℤ (s *ℤ a.x +ℤ t *ℤ b.x) *ℤ (k *ℤ pos 1 +ℤ l *ℤ pos 1))
            ((k *ℤ c.y +ℤ l *ℤ d.y) *ℤ (s *ℤ pos 1 +ℤ t *ℤ pos 1) -ℤ (s *ℤ a.y +ℤ t *ℤ b.y) *ℤ (k *ℤ pos 1 +ℤ l *ℤ pos 1))
            e) (divisor_is s t k l) near));
      }

-- ---- weights moved along a way
mixed : (k j m v n w r z : ℤ)
    → (k *ℤ m +ℤ j *ℤ v) *ℤ r +ℤ (k *ℤ n +ℤ j *ℤ w) *ℤ z ≡ k *ℤ (m *ℤ r +ℤ n *ℤ z) +ℤ j *ℤ (v *ℤ r +ℤ w *ℤ z)
mixed k j m v n w r z = ring (k ∷ j ∷ m ∷ v ∷ n ∷ w ∷ r ∷ z ∷ [])
    ((v0 ⊗ v2 ⊕ v1 ⊗ v3) ⊗ v6 ⊕ (v0 ⊗ v4 ⊕ v1 ⊗ v5) ⊗ v7)
    (v0 ⊗ (v2 ⊗ v6 ⊕ v4 ⊗ v7) ⊕ v1 ⊗ (v3 ⊗ v6 ⊕ v5 ⊗ v7)) refl

times_gap : (k m n : ℤ) → k *ℤ (m -ℤ n) ≡ k *ℤ m -ℤ k *ℤ n
times_gap k m n = ring (k ∷ m ∷ n ∷ []) (v0 ⊗ (v1 ⊖ v2)) (v0 ⊗ v1 ⊖ v0 ⊗ v2) refl

pub times_zero : (j z : ℤ) → z ≡ pos 0 → j *ℤ z ≡ pos 0
times_zero j z e = ap (λ (x : ℤ). j *ℤ x) e ∙ ring (j ∷ []) (v0 ⊗ num (pos 0)) (num (pos 0)) refl

spread_moved : (k j s t m n v w x y p q r z : ℤ) → spread v w x y p q r z ≡ pos 0
    → k *ℤ spread s t m n p q r z
    ≡ spread (k *ℤ s +ℤ j *ℤ v) (k *ℤ t +ℤ j *ℤ w) (k *ℤ m +ℤ j *ℤ x) (k *ℤ n +ℤ j *ℤ y) p q r z
spread_moved k j s t m n v w x y p q r z e =
    let f = mixed k j m x n y r z in
    let g = mixed k j s v t w p q in
    let o = times_gap k (m *ℤ r +ℤ n *ℤ z) (s *ℤ p +ℤ t *ℤ q) in
    let i = times_gap j (x *ℤ r +ℤ y *ℤ z) (v *ℤ p +ℤ w *ℤ q) in
    let l = times_zero j (spread v w x y p q r z) e in
    omega (arith, ints, f, g, o, i, l)

sum_moved : (k j s t v w : ℤ) → (k *ℤ s +ℤ j *ℤ v) +ℤ (k *ℤ t +ℤ j *ℤ w) ≡ k *ℤ (s +ℤ t) +ℤ j *ℤ (v +ℤ w)
sum_moved k j s t v w = ring (k ∷ j ∷ s ∷ t ∷ v ∷ w ∷ []) ((v0 ⊗ v2 ⊕ v1 ⊗ v4) ⊕ (v0 ⊗ v3 ⊕ v1 ⊗ v5))
    (v0 ⊗ (v2 ⊕ v3) ⊕ v1 ⊗ (v4 ⊕ v5)) refl

module _ (h u : ℤ) (origin : HoldsOrigin (octagon h u)) (a b c d : Pt) where
  pub moved : (s t m n v w x y k j : ℤ) → Weights h u a b c d s t m n → Way a b c d v w x y → pos 0 <ℤ k → pos 0 ≤ℤ j
      → pos 0 ≤ℤ (k *ℤ s +ℤ j *ℤ v) → pos 0 ≤ℤ (k *ℤ t +ℤ j *ℤ w) → pos 0 ≤ℤ (k *ℤ m +ℤ j *ℤ x)
      → pos 0 ≤ℤ (k *ℤ n +ℤ j *ℤ y)
      → Weights h u a b c d (k *ℤ s +ℤ j *ℤ v) (k *ℤ t +ℤ j *ℤ w) (k *ℤ m +ℤ j *ℤ x) (k *ℤ n +ℤ j *ℤ y)
  moved s t m n v w x y k j o g hk hj first second third fourth =
      let p = positive_product k (s +ℤ t) hk o.some in
      let q = at_least_mul j (v +ℤ w) hj g.from in
      let e = sum_moved k j s t v w in
      let f = sum_moved k j m n x y in
      let i = ap (λ (z : ℤ). k *ℤ z) o.same in
      let l = ap (λ (z : ℤ). j *ℤ z) g.same in
      record {
        first = first;
        second = second;
        third = third;
        fourth = fourth;
        same = omega (arith, ints, e, f, i, l);
        some = omega (arith, ints, p, q, e);
        held = subst (λ (z : ℤ). Held (octagon h u) z
            (spread (k *ℤ s +ℤ j *ℤ v) (k *ℤ t +ℤ j *ℤ w) (k *ℤ m +ℤ j *ℤ x) (k *ℤ n +ℤ j *ℤ y) a.y b.y c.y d.y)
            ((k *ℤ s +ℤ j *ℤ v) +ℤ (k *ℤ t +ℤ j *ℤ w))) (spread_moved k j s t m n v w x y a.x b.x c.x d.x g.x)
            (subst (λ (z : ℤ). Held (octagon h u) (k *ℤ spread s t m n a.x b.x c.x d.x) z
            ((k *ℤ s +ℤ j *ℤ v) +ℤ (k *ℤ t +ℤ j *ℤ w))) (spread_moved k j s t m n v w x y a.y b.y c.y d.y g.y)
            (held_nearer (octagon h u) (k *ℤ spread s t m n a.x b.x c.x d.x) (k *ℤ spread s t m n a.y b.y c.y d.y)
            (k *ℤ (s +ℤ t)) ((k *ℤ s +ℤ j *ℤ v) +ℤ (k *ℤ t +ℤ j *ℤ w)) origin (omega (arith, ints, q, e))
            (held_times (octagon h u) (spread s t m n a.x b.x c.x d.x) (spread s t m n a.y b.y c.y d.y) (s +ℤ t) k
            (omega (arith, ints, hk)) o.held)));
      }

-- ---- an end of one segment near to the other
end_is : (m n q r z : ℤ)
    → pos 2 *ℤ ((m *ℤ r +ℤ n *ℤ z) -ℤ (m +ℤ n) *ℤ q)
    ≡ (m *ℤ r +ℤ n *ℤ z) *ℤ pos 2 -ℤ (pos 2 *ℤ q) *ℤ (m *ℤ pos 1 +ℤ n *ℤ pos 1)
end_is m n q r z = ring (m ∷ n ∷ q ∷ r ∷ z ∷ []) (num (pos 2) ⊗ ((v0 ⊗ v3 ⊕ v1 ⊗ v4) ⊖ (v0 ⊕ v1) ⊗ v2))
    ((v0 ⊗ v3 ⊕ v1 ⊗ v4) ⊗ num (pos 2) ⊖ (num (pos 2) ⊗ v2) ⊗ (v0 ⊗ num (pos 1) ⊕ v1 ⊗ num (pos 1))) refl

end_divisor : (m n : ℤ) → pos 2 *ℤ (m +ℤ n) ≡ (m *ℤ pos 1 +ℤ n *ℤ pos 1) *ℤ pos 2
end_divisor m n = ring (m ∷ n ∷ []) (num (pos 2) ⊗ (v0 ⊕ v1)) ((v0 ⊗ num (pos 1) ⊕ v1 ⊗ num (pos 1)) ⊗ num (pos 2)) refl

pub end_near : (h u : ℤ) (p r z : Pt) (m n x y e : ℤ) → x ≡ (m *ℤ r.x +ℤ n *ℤ z.x) -ℤ (m +ℤ n) *ℤ p.x
    → y ≡ (m *ℤ r.y +ℤ n *ℤ z.y) -ℤ (m +ℤ n) *ℤ p.y → e ≡ m +ℤ n → Held (octagon h u) x y e
    → IsWithinRegion Closed (octagon h u) (halves (pos 2 *ℤ p.x) (pos 2 *ℤ p.y)) (mean m n (whole r) (whole z))
end_near h u p r z m n x y e f g i held =
    subst (λ (w : ℤ). Held (octagon h u) w
    ((m *ℤ r.y +ℤ n *ℤ z.y) *ℤ pos 2 -ℤ (pos 2 *ℤ p.y) *ℤ (m *ℤ pos 1 +ℤ n *ℤ pos 1))
    ((m *ℤ pos 1 +ℤ n *ℤ pos 1) *ℤ pos 2)) (ap (λ (w : ℤ). pos 2 *ℤ w) f ∙ end_is m n p.x r.x z.x)
    (subst (λ (w : ℤ). Held (octagon h u) (pos 2 *ℤ x) w ((m *ℤ pos 1 +ℤ n *ℤ pos 1) *ℤ pos 2))
    (ap (λ (w : ℤ). pos 2 *ℤ w) g ∙ end_is m n p.y r.y z.y)
    (subst (λ (w : ℤ). Held (octagon h u) (pos 2 *ℤ x) (pos 2 *ℤ y) w)
    (ap (λ (w : ℤ). pos 2 *ℤ w) i ∙ end_divisor m n)
    (held_times (octagon h u) x y e (pos 2) (omega (arith, ints)) held)))
