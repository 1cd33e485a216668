-- Whether a segment between whole points meets the octagon round a point, over the point's divisor.
use Rattle.std.proofs.Common.{◌≡◌, [], ◌∷◌, refl, arith, ℤ, pos, neg_ℤ, ◌+ℤ◌, ◌-ℤ◌, ◌*ℤ◌, ◌<ℤ◌}
use lib.Signed.{◌≤ℤ◌}
use Rattle.std.proofs.lemmas.Int.{ints}
use Rattle.scad_geom.specs.declared.point.Pt.{Pt}
use Rattle.scad_geom.specs.Point.{Point, whole}
use Rattle.scad_geom.specs.Near.{mean}
use Rattle.scad_geom.proofs.Ring.{ring, num, ◌⊕◌, ◌⊖◌, ◌⊗◌, v0, v1, v2, v3, v4, v5, v6, v7, v8, v9, v10}
use Rattle.scad_ring.specs.Octagon.{octagon}
use Rattle.scad_ring.specs.Nearness.{Closed, IsWithinRegion, Meets}
use Rattle.scad_ring.proofs.Convex.{Lies}
use Rattle.scad_ring.proofs.Octants.{Approach}

place_is : (n m s t px py rx ry qx qy d : ℤ)
    → n *ℤ ((s *ℤ px +ℤ t *ℤ rx) *ℤ d -ℤ qx *ℤ (s *ℤ pos 1 +ℤ t *ℤ pos 1)) +ℤ m *ℤ
    ((s *ℤ py +ℤ t *ℤ ry) *ℤ d -ℤ qy *ℤ (s *ℤ pos 1 +ℤ t *ℤ pos 1))
    ≡ n *ℤ (s *ℤ (px *ℤ d -ℤ qx) +ℤ t *ℤ (rx *ℤ d -ℤ qx)) +ℤ m *ℤ
    (s *ℤ (py *ℤ d -ℤ qy) +ℤ t *ℤ (ry *ℤ d -ℤ qy))
place_is n m s t px py rx ry qx qy d = ring (n ∷ m ∷ s ∷ t ∷ px ∷ py ∷ rx ∷ ry ∷ qx ∷ qy ∷ d ∷ [])
    (v0 ⊗ ((v2 ⊗ v4 ⊕ v3 ⊗ v6) ⊗ v10 ⊖ v8 ⊗ (v2 ⊗ num (pos 1) ⊕ v3 ⊗ num (pos 1))) ⊕ v1 ⊗
    ((v2 ⊗ v5 ⊕ v3 ⊗ v7) ⊗ v10 ⊖ v9 ⊗ (v2 ⊗ num (pos 1) ⊕ v3 ⊗ num (pos 1))))
    (v0 ⊗ (v2 ⊗ (v4 ⊗ v10 ⊖ v8) ⊕ v3 ⊗ (v6 ⊗ v10 ⊖ v8)) ⊕ v1
    ⊗ (v2 ⊗ (v5 ⊗ v10 ⊖ v9) ⊕ v3 ⊗ (v7 ⊗ v10 ⊖ v9))) refl

weight_is : (c s t d : ℤ) → c *ℤ ((s *ℤ pos 1 +ℤ t *ℤ pos 1) *ℤ d) ≡ (c *ℤ d) *ℤ (s +ℤ t)
weight_is c s t d = ring (c ∷ s ∷ t ∷ d ∷ []) (v0 ⊗ ((v1 ⊗ num (pos 1) ⊕ v2 ⊗ num (pos 1)) ⊗ v3))
    ((v0 ⊗ v3) ⊗ (v1 ⊕ v2)) refl

-- the octagon's half planes as q sees them
abbrev pub ApproachFrom : ℤ → ℤ → Point → Pt → Pt → Type 0
ApproachFrom s u q p r = Approach (s *ℤ q.d) (u *ℤ q.d) (p.x *ℤ q.d -ℤ q.x) (p.y *ℤ q.d -ℤ q.y)
    (r.x *ℤ q.d -ℤ q.x)
    (r.y *ℤ q.d -ℤ q.y)

module _ (q : Point) (p r : Pt) where
  abbrev Bound : ℤ → ℤ → ℤ → ℤ → ℤ → Type 0
  Bound n m c s t = (n *ℤ ((s *ℤ p.x +ℤ t *ℤ r.x) *ℤ q.d -ℤ q.x *ℤ (s *ℤ pos 1 +ℤ t *ℤ pos 1)) +ℤ
      m *ℤ
      ((s *ℤ p.y +ℤ t *ℤ r.y) *ℤ q.d -ℤ q.y *ℤ (s *ℤ pos 1 +ℤ t *ℤ pos 1))) ≤ℤ (c *ℤ
      ((s *ℤ pos 1 +ℤ t *ℤ pos 1) *ℤ q.d))

  abbrev LiesFrom : ℤ → ℤ → ℤ → ℤ → ℤ → Type 0
  LiesFrom n m c s t = Lies n m (c *ℤ q.d) s t (p.x *ℤ q.d -ℤ q.x) (p.y *ℤ q.d -ℤ q.y) (r.x *ℤ q.d -ℤ q.x)
      (r.y *ℤ q.d -ℤ q.y)

  bound : (n m c s t : ℤ) → LiesFrom n m c s t → Bound n m c s t
  bound n m c s t l = rw (place_is n m s t p.x p.y r.x r.y q.x q.y q.d, weight_is c s t q.d) l

  lies : (n m c s t : ℤ) → Bound n m c s t → LiesFrom n m c s t
  lies n m c s t b =
      let e = place_is n m s t p.x p.y r.x r.y q.x q.y q.d in
      let w = weight_is c s t q.d in
      omega (arith, ints, b, e, w)

  pub meets_if_approach : (s u : ℤ) → ApproachFrom s u q p r → Meets Closed (octagon s u) q (whole p) (whole r)
  meets_if_approach s u a = record {
    s = a.s;
    t = a.t;
    from = a.from;
    to = a.to;
    some = a.some;
    near = (
      bound (pos 1) (pos 0) s a.s a.t a.right,
      (
        bound (neg_ℤ (pos 1)) (pos 0) s a.s a.t a.left,
        (
          bound (pos 0) (pos 1) s a.s a.t a.over,
          (
            bound (pos 0) (neg_ℤ (pos 1)) s a.s a.t a.below,
            (
              bound (pos 1) (pos 1) u a.s a.t a.over_right,
              (
                bound (pos 1) (neg_ℤ (pos 1)) u a.s a.t a.below_right,
                (
                  bound (neg_ℤ (pos 1)) (pos 1) u a.s a.t a.over_left,
                  (
                    bound (neg_ℤ (pos 1)) (neg_ℤ (pos 1)) u a.s a.t a.below_left,
                    tt,
                  ),
                ),
              ),
            ),
          ),
        ),
      ),
    );
  }

  pub approach_if_near : (s u k t : ℤ) → pos 0 ≤ℤ k → pos 0 ≤ℤ t → pos 0 <ℤ (k +ℤ t)
      → IsWithinRegion Closed (octagon s u) q (mean k t (whole p) (whole r)) → ApproachFrom s u q p r
  approach_if_near s u k t from to some n = record {
    s = k;
    t = t;
    from = from;
    to = to;
    some = some;
    right = lies (pos 1) (pos 0) s k t n.0;
    left = lies (neg_ℤ (pos 1)) (pos 0) s k t n.1.0;
    over = lies (pos 0) (pos 1) s k t n.1.1.0;
    below = lies (pos 0) (neg_ℤ (pos 1)) s k t n.1.1.1.0;
    over_right = lies (pos 1) (pos 1) u k t n.1.1.1.1.0;
    below_right = lies (pos 1) (neg_ℤ (pos 1)) u k t n.1.1.1.1.1.0;
    over_left = lies (neg_ℤ (pos 1)) (pos 1) u k t n.1.1.1.1.1.1.0;
    below_left = lies (neg_ℤ (pos 1)) (neg_ℤ (pos 1)) u k t n.1.1.1.1.1.1.1.0;
  }

  pub approach_if_meets : (s u : ℤ) → Meets Closed (octagon s u) q (whole p) (whole r) → ApproachFrom s u q p r
  approach_if_meets s u m = approach_if_near s u m.s m.t m.from m.to m.some m.near
