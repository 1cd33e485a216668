-- Regions are convex: with points they hold their positive multiples and their sums.
use Rattle.std.proofs.Common.{◌≡◌, List, [], ◌∷◌, refl, sym, ◌∙◌, subst, arith}
use lib.IntN.{ℤ, pos, ◌+ℤ◌, ◌-ℤ◌, ◌*ℤ◌}
use lib.Signed.{◌<ℤ◌, ◌≤ℤ◌}
use Rattle.std.proofs.lemmas.Int.{ints}
use Rattle.scad_base.proofs.Integers.{gap_of_at_most, at_most_of_gap}
use Rattle.scad_geom.specs.Point.{Point}
use Rattle.scad_geom.proofs.Ring.{ring, ◌⊕◌, ◌⊖◌, ◌⊗◌, v0, v1, v2, v3, v4, v5, v6, v7, v8}
use Rattle.scad_geom.proofs.Signs.{at_least_mul, at_least_left, sum_at_least, no_gap, one-mul}
use Rattle.winding_laws.specs.Region.{HalfPlane, Bounds, Holds, HoldsOrigin}
use Rattle.winding_laws.specs.Nearness.{seen_from, IsNear}
use Rattle.scad_geom.specs.Near.{mean}
use Rattle.std.proofs.Math.IntN.{zero-*ℤ}

-- the numbers of a point times a factor, and the sums of two points' numbers
abbrev pub scaled : Point → ℤ → Point
scaled p k = record { x = p.x *ℤ k; y = p.y *ℤ k; d = p.d *ℤ k }

abbrev pub added : Point → Point → Point
added p q = record { x = p.x +ℤ q.x; y = p.y +ℤ q.y; d = p.d +ℤ q.d }

pub same_point : (p q : Point) → p.x ≡ q.x → p.y ≡ q.y → p.d ≡ q.d → p ≡ q
same_point p q x y d = λ i. record { x = x i; y = y i; d = d i }

-- ---- of one half plane
slack_scaled : (a b c x y d k : ℤ) → (c *ℤ d -ℤ (a *ℤ x +ℤ b *ℤ y)) *ℤ k ≡ c *ℤ (d *ℤ k) -ℤ
    (a *ℤ (x *ℤ k) +ℤ b *ℤ (y *ℤ k))
slack_scaled a b c x y d k = ring (a ∷ b ∷ c ∷ x ∷ y ∷ d ∷ k ∷ [])
    ((v2 ⊗ v5 ⊖ (v0 ⊗ v3 ⊕ v1 ⊗ v4)) ⊗ v6)
    (v2 ⊗ (v5 ⊗ v6) ⊖ (v0 ⊗ (v3 ⊗ v6) ⊕ v1 ⊗ (v4 ⊗ v6))) refl

slack_added : (a b c x y d z w e : ℤ) → (c *ℤ d -ℤ (a *ℤ x +ℤ b *ℤ y)) +ℤ
    (c *ℤ e -ℤ (a *ℤ z +ℤ b *ℤ w)) ≡ c *ℤ (d +ℤ e)
    -ℤ (a *ℤ (x +ℤ z) +ℤ b *ℤ (y +ℤ w))
slack_added a b c x y d z w e =
    ring (a ∷ b ∷ c ∷ x ∷ y ∷ d ∷ z ∷ w ∷ e ∷ [])
    ((v2 ⊗ v5 ⊖ (v0 ⊗ v3 ⊕ v1 ⊗ v4)) ⊕ (v2 ⊗ v8 ⊖ (v0 ⊗ v6 ⊕ v1 ⊗ v7)))
    (v2 ⊗ (v5 ⊕ v8) ⊖ (v0 ⊗ (v3 ⊕ v6) ⊕ v1 ⊗ (v4 ⊕ v7))) refl

slack : (p : Point) (h : HalfPlane) → Bounds p h → pos 0 ≤ℤ (h.c *ℤ p.d -ℤ (h.a *ℤ p.x +ℤ h.b *ℤ p.y))
slack p h b = gap_of_at_most (h.a *ℤ p.x +ℤ h.b *ℤ p.y) (h.c *ℤ p.d) b

bounds : (p : Point) (h : HalfPlane) → pos 0 ≤ℤ (h.c *ℤ p.d -ℤ (h.a *ℤ p.x +ℤ h.b *ℤ p.y))
    → Bounds p h
bounds p h s = at_most_of_gap (h.a *ℤ p.x +ℤ h.b *ℤ p.y) (h.c *ℤ p.d) s

at_least_as : (s t : ℤ) → s ≡ t → pos 0 ≤ℤ s → pos 0 ≤ℤ t
at_least_as s t e h = omega (arith, ints)

bounds_scaled : (p : Point) (k : ℤ) → pos 0 ≤ℤ k → (h : HalfPlane) → Bounds p h → Bounds (scaled p k) h
bounds_scaled p k least h b = bounds (scaled p k) h (at_least_as _ _ (slack_scaled h.a h.b h.c p.x p.y p.d k)
    (at_least_mul (h.c *ℤ p.d -ℤ (h.a *ℤ p.x +ℤ h.b *ℤ p.y)) k (slack p h b) least))

bounds_left : (p : Point) (k : ℤ) → pos 0 <ℤ k → (h : HalfPlane) → Bounds (scaled p k) h → Bounds p h
bounds_left p k more h b =
    bounds p h (at_least_left (h.c *ℤ p.d -ℤ (h.a *ℤ p.x +ℤ h.b *ℤ p.y)) k more
    (at_least_as _ _ (sym (slack_scaled h.a h.b h.c p.x p.y p.d k)) (slack (scaled p k) h b)))

bounds_added : (p q : Point) (h : HalfPlane) → Bounds p h → Bounds q h → Bounds (added p q) h
bounds_added p q h b c = bounds (added p q) h (at_least_as _ _ (slack_added h.a h.b h.c p.x p.y p.d q.x q.y q.d)
    (sum_at_least _ _ (slack p h b) (slack q h c)))

-- ---- of a region
pub holds_scaled : (region : List HalfPlane) (p : Point) (k : ℤ) → pos 0 ≤ℤ k → Holds region p
    → Holds region (scaled p k)
holds_scaled [] p k least h = tt
holds_scaled (b ∷ bs) p k least h = (bounds_scaled p k least b h.0, holds_scaled bs p k least h.1)

pub holds_left : (region : List HalfPlane) (p : Point) (k : ℤ) → pos 0 <ℤ k → Holds region (scaled p k)
    → Holds region p
holds_left [] p k more h = tt
holds_left (b ∷ bs) p k more h = (bounds_left p k more b h.0, holds_left bs p k more h.1)

pub holds_added : (region : List HalfPlane) (p q : Point) → Holds region p → Holds region q
    → Holds region (added p q)
holds_added [] p q h g = tt
holds_added (b ∷ bs) p q h g = (bounds_added p q b h.0 g.0, holds_added bs p q h.1 g.1)

-- the same place, over any divisors
pub holds_as : (region : List HalfPlane) (p q : Point) → p.x ≡ q.x → p.y ≡ q.y → p.d ≡ q.d
    → Holds region p → Holds region q
holds_as region p q x y d h = subst (Holds region) (same_point p q x y d) h

-- a point is near to itself where the region holds the origin
pub near_itself : (region : List HalfPlane) → HoldsOrigin region → (p : Point) → pos 0 ≤ℤ (p.d *ℤ p.d)
    → IsNear region p p
near_itself region o p least =
    holds_as region (scaled (record { x = pos 0; y = pos 0; d = pos 1 }) (p.d *ℤ p.d)) (seen_from p p)
    (zero-*ℤ (p.d *ℤ p.d) ∙ sym (no_gap (p.x *ℤ p.d) (p.x *ℤ p.d) refl))
    (zero-*ℤ (p.d *ℤ p.d) ∙ sym (no_gap (p.y *ℤ p.d) (p.y *ℤ p.d) refl)) (one-mul (p.d *ℤ p.d))
    (holds_scaled region (record { x = pos 0; y = pos 0; d = pos 1 }) (p.d *ℤ p.d) least o)

-- ---- seen from a third point
-- q's view of p, as a third point z sees both, is q's view times the square of the third divisor
pub axis_seen : (x d y e z f : ℤ) → (x *ℤ e -ℤ y *ℤ d) *ℤ (f *ℤ f)
    ≡ (x *ℤ f -ℤ z *ℤ d) *ℤ (e *ℤ f) -ℤ
    (y *ℤ f -ℤ z *ℤ e) *ℤ (d *ℤ f)
axis_seen x d y e z f = ring (x ∷ d ∷ y ∷ e ∷ z ∷ f ∷ []) ((v0 ⊗ v3 ⊖ v2 ⊗ v1) ⊗ (v5 ⊗ v5))
    ((v0 ⊗ v5 ⊖ v4 ⊗ v1) ⊗ (v3 ⊗ v5) ⊖ (v2 ⊗ v5 ⊖ v4 ⊗ v3) ⊗ (v1 ⊗ v5)) refl

weight_seen : (d e f : ℤ) → (d *ℤ e) *ℤ (f *ℤ f) ≡ (d *ℤ f) *ℤ (e *ℤ f)
weight_seen d e f = ring (d ∷ e ∷ f ∷ []) ((v0 ⊗ v1) ⊗ (v2 ⊗ v2)) ((v0 ⊗ v2) ⊗ (v1 ⊗ v2)) refl

pub near_seen : (region : List HalfPlane) (z q p : Point) → pos 0 ≤ℤ (z.d *ℤ z.d) → IsNear region q p
    → IsNear region (seen_from z q) (seen_from z p)
near_seen region z q p least h =
    holds_as region (scaled (seen_from q p) (z.d *ℤ z.d)) (seen_from (seen_from z q) (seen_from z p))
    (axis_seen p.x p.d q.x q.d z.x z.d) (axis_seen p.y p.d q.y q.d z.y z.d) (weight_seen p.d q.d z.d)
    (holds_scaled region (seen_from q p) (z.d *ℤ z.d) least h)

-- and back
pub near_unseen : (region : List HalfPlane) (z q p : Point) → pos 0 <ℤ (z.d *ℤ z.d)
    → IsNear region (seen_from z q)
    (seen_from z p) → IsNear region q p
near_unseen region z q p more h =
    holds_left region (seen_from q p) (z.d *ℤ z.d) more
    (holds_as region (seen_from (seen_from z q) (seen_from z p)) (scaled (seen_from q p) (z.d *ℤ z.d))
    (sym (axis_seen p.x p.d q.x q.d z.x z.d)) (sym (axis_seen p.y p.d q.y q.d z.y z.d)) (sym (weight_seen p.d q.d z.d))
    h)

-- the view of a mean is the mean of the views
pub mean_seen : (q a b : Point) (s t : ℤ) → mean s t (seen_from q a) (seen_from q b) ≡ seen_from q (mean s t a b)
mean_seen q a b s t =
    same_point (mean s t (seen_from q a) (seen_from q b)) (seen_from q (mean s t a b))
    (one_axis s t a.x a.d b.x b.d q.x q.d) (one_axis s t a.y a.d b.y b.d q.y q.d) (weights s t a.d b.d q.d)
  where
    one_axis : (s t x d y e z f : ℤ) → s *ℤ (x *ℤ f -ℤ z *ℤ d) +ℤ t *ℤ (y *ℤ f -ℤ z *ℤ e)
        ≡ (s *ℤ x +ℤ t *ℤ y) *ℤ f -ℤ z
        *ℤ (s *ℤ d +ℤ t *ℤ e)
    one_axis s t x d y e z f =
        ring (s ∷ t ∷ x ∷ d ∷ y ∷ e ∷ z ∷ f ∷ [])
        (v0 ⊗ (v2 ⊗ v7 ⊖ v6 ⊗ v3) ⊕ v1 ⊗ (v4 ⊗ v7 ⊖ v6 ⊗ v5))
        ((v0 ⊗ v2 ⊕ v1 ⊗ v4) ⊗ v7 ⊖ v6 ⊗ (v0 ⊗ v3 ⊕ v1 ⊗ v5)) refl

    weights : (s t d e f : ℤ) → s *ℤ (d *ℤ f) +ℤ t *ℤ (e *ℤ f) ≡ (s *ℤ d +ℤ t *ℤ e) *ℤ f
    weights s t d e f = ring (s ∷ t ∷ d ∷ e ∷ f ∷ []) (v0 ⊗ (v2 ⊗ v4) ⊕ v1 ⊗ (v3 ⊗ v4))
        ((v0 ⊗ v2 ⊕ v1 ⊗ v3) ⊗ v4) refl
