-- The way from the origin to a point, as a region.
use Rattle.std.proofs.Common.{◌≡◌, List, [], ◌∷◌, refl, sym, ap, ◌∙◌, subst, arith}
use lib.IntN.{ℤ, pos, ◌+ℤ◌, ◌-ℤ◌, ◌*ℤ◌}
use lib.Signed.{◌<ℤ◌, ◌≤ℤ◌}
use Rattle.std.proofs.lemmas.Int.{ints, by_lt_z}
use Rattle.scad_base.proofs.Products.{positive_product}
use Rattle.scad_geom.specs.Point.{Point}
use Rattle.scad_geom.proofs.Ring.{ring, num, ◌⊕◌, ◌⊖◌, ◌⊗◌, v0, v1, v2, v3, v4, v5, v6, v7}
use Rattle.scad_geom.proofs.Signs.{at_least_mul, sum_at_least, square_at_least, mul-one, no_gap}
use Rattle.winding_laws.specs.Region.{HalfPlane, Holds, HoldsOrigin}
use Rattle.winding_laws.specs.Nearness.{seen_from, IsNear}
use Rattle.winding_laws.proofs.Regions.{scaled, added, holds_scaled, holds_added, holds_left, holds_as}
use Rattle.scad_base.proofs.Integers.{at_most_of_less, gap_of_at_most, sum_above, zero_between}
use Rattle.std.proofs.Math.IntN.{zero-*ℤ}

-- the cross product of p and d: 0 where p lies on the line from the origin through d
abbrev off : Point → Point → ℤ
off d p = p.x *ℤ d.y -ℤ p.y *ℤ d.x

-- the dot product: how far p lies along d
abbrev along : Point → Point → ℤ
along d p = p.x *ℤ d.x +ℤ p.y *ℤ d.y

-- the square of the length of the way to d
abbrev pub length : Point → ℤ
length d = along d d

abbrev half : ℤ → ℤ → ℤ → HalfPlane
half a b c = record { a = a; b = b; c = c }

-- on the line to d, not before the origin and not behind d
abbrev pub way : Point → List HalfPlane
way d =
    half d.y (pos 0 -ℤ d.x) (pos 0)
    ∷ half (pos 0 -ℤ d.y) d.x (pos 0)
    ∷ half (pos 0 -ℤ d.x) (pos 0 -ℤ d.y) (pos 0)
    ∷ half (d.x *ℤ d.d) (d.y *ℤ d.d) (length d)
    ∷ []

-- ---- what its half planes say
left_is : (x y u v : ℤ) → v *ℤ x +ℤ (pos 0 -ℤ u) *ℤ y ≡ x *ℤ v -ℤ y *ℤ u
left_is x y u v = ring (x ∷ y ∷ u ∷ v ∷ []) (v3 ⊗ v0 ⊕ (num (pos 0) ⊖ v2) ⊗ v1)
    (v0 ⊗ v3 ⊖ v1 ⊗ v2) refl

right_is : (x y u v : ℤ) → (pos 0 -ℤ v) *ℤ x +ℤ u *ℤ y ≡ pos 0 -ℤ (x *ℤ v -ℤ y *ℤ u)
right_is x y u v = ring (x ∷ y ∷ u ∷ v ∷ []) ((num (pos 0) ⊖ v3) ⊗ v0 ⊕ v2 ⊗ v1)
    (num (pos 0) ⊖ (v0 ⊗ v3 ⊖ v1 ⊗ v2))
    refl

back_is : (x y u v : ℤ) → (pos 0 -ℤ u) *ℤ x +ℤ (pos 0 -ℤ v) *ℤ y ≡ pos 0 -ℤ (x *ℤ u +ℤ y *ℤ v)
back_is x y u v = ring (x ∷ y ∷ u ∷ v ∷ []) ((num (pos 0) ⊖ v2) ⊗ v0 ⊕ (num (pos 0) ⊖ v3) ⊗ v1)
    (num (pos 0) ⊖ (v0 ⊗ v2 ⊕ v1 ⊗ v3)) refl

far_is : (x y u v w : ℤ) → (u *ℤ w) *ℤ x +ℤ (v *ℤ w) *ℤ y ≡ (x *ℤ u +ℤ y *ℤ v) *ℤ w
far_is x y u v w = ring (x ∷ y ∷ u ∷ v ∷ w ∷ []) ((v2 ⊗ v4) ⊗ v0 ⊕ (v3 ⊗ v4) ⊗ v1)
    ((v0 ⊗ v2 ⊕ v1 ⊗ v3) ⊗ v4) refl

at_most_as : (s t u v : ℤ) → s ≡ u → t ≡ v → u ≤ℤ v → s ≤ℤ t
at_most_as s t u v e f h = omega (arith, ints)

zero_at_most : (z : ℤ) → z ≡ pos 0 → z ≤ℤ pos 0
zero_at_most z h = omega (arith, ints)

turned_at_most : (z : ℤ) → z ≡ pos 0 → (pos 0 -ℤ z) ≤ℤ pos 0
turned_at_most z h = omega (arith, ints)

behind_at_most : (z : ℤ) → pos 0 ≤ℤ z → (pos 0 -ℤ z) ≤ℤ pos 0
behind_at_most z h = omega (arith, ints)

on_way : (d p : Point) → off d p ≡ pos 0 → pos 0 ≤ℤ along d p
    → (along d p *ℤ d.d) ≤ℤ (length d *ℤ p.d) → Holds (way d) p
on_way d p o a f = (
  at_most_as _ _ _ _ (left_is p.x p.y d.x d.y) (zero-*ℤ p.d) (zero_at_most (off d p) o),
  (
    at_most_as _ _ _ _ (right_is p.x p.y d.x d.y) (zero-*ℤ p.d) (turned_at_most (off d p) o),
    (
      at_most_as _ _ _ _ (back_is p.x p.y d.x d.y) (zero-*ℤ p.d) (behind_at_most (along d p) a),
      (at_most_as _ _ _ _ (far_is p.x p.y d.x d.y d.d) refl f, tt),
    ),
  ),
)

at_most_from : (s t u v : ℤ) → s ≡ u → t ≡ v → s ≤ℤ t → u ≤ℤ v
at_most_from s t u v e f h = omega (arith, ints)

between_zeros : (z : ℤ) → z ≤ℤ pos 0 → (pos 0 -ℤ z) ≤ℤ pos 0 → z ≡ pos 0
between_zeros z h k = omega (arith, ints)

ahead : (z : ℤ) → (pos 0 -ℤ z) ≤ℤ pos 0 → pos 0 ≤ℤ z
ahead z h = omega (arith, ints)

way_off : (d p : Point) → Holds (way d) p → off d p ≡ pos 0
way_off d p h =
    between_zeros (off d p) (at_most_from _ _ _ _ (left_is p.x p.y d.x d.y) (zero-*ℤ p.d) h.0)
    (at_most_from _ _ _ _ (right_is p.x p.y d.x d.y) (zero-*ℤ p.d) h.1.0)

way_along : (d p : Point) → Holds (way d) p → pos 0 ≤ℤ along d p
way_along d p h = ahead (along d p) (at_most_from _ _ _ _ (back_is p.x p.y d.x d.y) (zero-*ℤ p.d) h.1.1.0)

way_far : (d p : Point) → Holds (way d) p → (along d p *ℤ d.d) ≤ℤ (length d *ℤ p.d)
way_far d p h = at_most_from _ _ _ _ (far_is p.x p.y d.x d.y d.d) refl h.1.1.1.0

-- ---- its two ends
length_at_least : (d : Point) → pos 0 ≤ℤ length d
length_at_least d = sum_at_least (d.x *ℤ d.x) (d.y *ℤ d.y) (square_at_least d.x) (square_at_least d.y)

pub way_holds_origin : (d : Point) → HoldsOrigin (way d)
way_holds_origin d =
    on_way d (record { x = pos 0; y = pos 0; d = pos 1 })
    (ring (d.x ∷ d.y ∷ []) (num (pos 0) ⊗ v1 ⊖ num (pos 0) ⊗ v0) (num (pos 0)) refl)
    (at_most_as _ _ _ _ refl (ring (d.x ∷ d.y ∷ []) (num (pos 0) ⊗ v0 ⊕ num (pos 0) ⊗ v1) (num (pos 0)) refl)
    (omega (arith, ints)))
    (at_most_as _ _ _ _ (ring (d.x ∷ d.y ∷ d.d ∷ []) ((num (pos 0) ⊗ v0 ⊕ num (pos 0) ⊗ v1) ⊗ v2)
    (num (pos 0)) refl)
    (mul-one (length d)) (length_at_least d))

way_holds_end : (d : Point) → Holds (way d) d
way_holds_end d = on_way d d (no_gap (d.x *ℤ d.y) (d.y *ℤ d.x)
    (ring (d.x ∷ d.y ∷ []) (v0 ⊗ v1) (v1 ⊗ v0) refl))
    (length_at_least d) (at_most_itself (length d *ℤ d.d))
  where
    at_most_itself : (z : ℤ) → z ≤ℤ z
    at_most_itself z = omega (arith, ints)

-- a point that is moved back by d is near to where it was
pub near_moved_back : (d p : Point) → pos 0 ≤ℤ (p.d *ℤ p.d) → IsNear (way d) (seen_from d p) p
near_moved_back d p least =
    holds_as (way d) (scaled d (p.d *ℤ p.d)) (seen_from (seen_from d p) p) (one_axis d.x d.d p.x p.d)
    (one_axis d.y d.d p.y p.d) (weight d.d p.d)
    (holds_scaled (way d) d (p.d *ℤ p.d) least (way_holds_end d))
  where
    one_axis : (z e x d : ℤ) → z *ℤ (d *ℤ d) ≡ x *ℤ (d *ℤ e) -ℤ (x *ℤ e -ℤ z *ℤ d) *ℤ d
    one_axis z e x d = ring (z ∷ e ∷ x ∷ d ∷ []) (v0 ⊗ (v3 ⊗ v3))
        (v2 ⊗ (v3 ⊗ v1) ⊖ (v2 ⊗ v1 ⊖ v0 ⊗ v3) ⊗ v3) refl

    weight : (e d : ℤ) → e *ℤ (d *ℤ d) ≡ d *ℤ (d *ℤ e)
    weight e d = ring (e ∷ d ∷ []) (v0 ⊗ (v1 ⊗ v1)) (v1 ⊗ (v1 ⊗ v0)) refl

-- ---- a convex region that holds both ends, seen from a centre, holds the way
module _ (region : List HalfPlane) (c d o : Point) (ox : o.x ≡ pos 0) (oy : o.y ≡ pos 0) (dd : pos 0 ≤ℤ d.d)
    (od : pos 0 <ℤ o.d) (more : pos 0 <ℤ length d)
    (no : IsNear region c o) (nd : IsNear region c d) where
  place_x : (d p : Point) → off d p ≡ pos 0 → length d *ℤ p.x ≡ along d p *ℤ d.x
  place_x d p h =
      ring (d.x ∷ d.y ∷ p.x ∷ p.y ∷ []) ((v0 ⊗ v0 ⊕ v1 ⊗ v1) ⊗ v2)
      ((v2 ⊗ v0 ⊕ v3 ⊗ v1) ⊗ v0 ⊕ v1 ⊗ (v2 ⊗ v1 ⊖ v3 ⊗ v0))
      refl
      ∙ ap (λ (z : ℤ). along d p *ℤ d.x +ℤ d.y *ℤ z) h
      ∙ ring ((along d p *ℤ d.x) ∷ d.y ∷ []) (v0 ⊕ v1 ⊗ num (pos 0)) v0 refl

  place_y : (d p : Point) → off d p ≡ pos 0 → length d *ℤ p.y ≡ along d p *ℤ d.y
  place_y d p h =
      ring (d.x ∷ d.y ∷ p.x ∷ p.y ∷ []) ((v0 ⊗ v0 ⊕ v1 ⊗ v1) ⊗ v3)
      ((v2 ⊗ v0 ⊕ v3 ⊗ v1) ⊗ v1 ⊖ v0 ⊗ (v2 ⊗ v1 ⊖ v3 ⊗ v0))
      refl
      ∙ ap (λ (z : ℤ). along d p *ℤ d.y -ℤ d.x *ℤ z) h
      ∙ ring ((along d p *ℤ d.y) ∷ d.x ∷ []) (v0 ⊖ v1 ⊗ num (pos 0)) v0 refl

  one_axis : (n m g e k z w x y f : ℤ) → z ≡ pos 0 → n *ℤ x ≡ g *ℤ y
      → (z *ℤ k -ℤ w *ℤ f) *ℤ (n *ℤ m -ℤ g *ℤ e) +ℤ (y *ℤ k -ℤ w *ℤ e) *ℤ (g *ℤ f)
      ≡ (x *ℤ k -ℤ w *ℤ m) *ℤ (f *ℤ n)
  one_axis n m g e k z w x y f hz hx =
      ap (λ (u : ℤ). (u *ℤ k -ℤ w *ℤ f) *ℤ (n *ℤ m -ℤ g *ℤ e) +ℤ (y *ℤ k -ℤ w *ℤ e) *ℤ
      (g *ℤ f)) hz
      ∙ ring (n ∷ m ∷ g ∷ e ∷ k ∷ w ∷ y ∷ f ∷ [])
      ((num (pos 0) ⊗ v4 ⊖ v5 ⊗ v7) ⊗ (v0 ⊗ v1 ⊖ v2 ⊗ v3) ⊕
      (v6 ⊗ v4 ⊖ v5 ⊗ v3) ⊗ (v2 ⊗ v7)) ((v2 ⊗ v6) ⊗ (v4 ⊗ v7) ⊖ (v5 ⊗ v1) ⊗ (v7 ⊗ v0)) refl
      ∙ ap (λ (u : ℤ). u *ℤ (k *ℤ f) -ℤ (w *ℤ m) *ℤ (f *ℤ n)) (sym hx)
      ∙ ring (n ∷ m ∷ k ∷ w ∷ x ∷ f ∷ []) ((v0 ⊗ v4) ⊗ (v2 ⊗ v5) ⊖ (v3 ⊗ v1) ⊗ (v5 ⊗ v0))
      ((v4 ⊗ v2 ⊖ v3 ⊗ v1) ⊗ (v5 ⊗ v0)) refl

  weights : (n m g e k f : ℤ) → (f *ℤ k) *ℤ (n *ℤ m -ℤ g *ℤ e) +ℤ (e *ℤ k) *ℤ (g *ℤ f)
      ≡ (m *ℤ k) *ℤ (f *ℤ n)
  weights n m g e k f = ring (n ∷ m ∷ g ∷ e ∷ k ∷ f ∷ [])
      ((v5 ⊗ v4) ⊗ (v0 ⊗ v1 ⊖ v2 ⊗ v3) ⊕ (v3 ⊗ v4) ⊗ (v2 ⊗ v5))
      ((v1 ⊗ v4) ⊗ (v5 ⊗ v0)) refl

  pub way_near : (p : Point) → Holds (way d) p → IsNear region c p
  way_near p h =
      let g : ℤ = along d p in
      let n : ℤ = length d in
      let u : ℤ = n *ℤ p.d -ℤ g *ℤ d.d in
      let first : Point = scaled (seen_from c o) u in
      let second : Point = scaled (seen_from c d) (g *ℤ o.d) in
      holds_left region (seen_from c p) (o.d *ℤ n) (positive_product o.d n od more)
      (holds_as region (added first second) (scaled (seen_from c p) (o.d *ℤ n))
      (one_axis n p.d g d.d c.d o.x c.x p.x d.x o.d ox (place_x d p (way_off d p h))) (one_axis n p.d g d.d c.d o.y c.y
      p.y d.y o.d oy (place_y d p (way_off d p h)))
      (weights n p.d g d.d c.d o.d)
      (holds_added region first second (holds_scaled region (seen_from c o) u (gap_of_at_most (g *ℤ d.d) (n *ℤ p.d)
      (way_far d p h)) no)
      (holds_scaled region (seen_from c d) (g *ℤ o.d) (at_least_mul g o.d (way_along d p h)
      (at_most_of_less (pos 0) o.d od)) nd)))

-- ---- a way has a length or none
positive_square : (z : ℤ) → (z ≡ pos 0 → ⊥) → pos 0 <ℤ (z *ℤ z)
positive_square z n = by_lt_z (pos 0) z (λ h. positive_product z z h h)
    (λ h. by_lt_z z (pos 0)
    (λ k. let turned : (pos 0 -ℤ z) *ℤ (pos 0 -ℤ z) ≡ z *ℤ z = ring (z ∷ []) ((num (pos 0) ⊖ v0) ⊗ (num (pos 0) ⊖ v0)) (v0 ⊗ v0) refl in
    let above : pos 0 <ℤ (pos 0 -ℤ z) = omega (arith, ints) in
    subst (λ (y : ℤ). pos 0 <ℤ y) turned (positive_product (pos 0 -ℤ z) (pos 0 -ℤ z) above above))
    (λ k. absurd (n (zero_between z k h))))

pub by_length : {A : Type 0} (d : Point) → (pos 0 <ℤ length d → A) → (d.x ≡ pos 0 → d.y ≡ pos 0 → A)
    → A
by_length {A = A} d f g =
    by_zero d.x (λ x. by_zero d.y (λ y. g x y)
    (λ n. f (more (d.x *ℤ d.x) (d.y *ℤ d.y) (square_at_least d.x) (positive_square d.y n))))
    (λ n. f (sum_above (d.x *ℤ d.x) (d.y *ℤ d.y) (positive_square d.x n) (square_at_least d.y)))
  where
    more : (s t : ℤ) → pos 0 ≤ℤ s → pos 0 <ℤ t → pos 0 <ℤ (s +ℤ t)
    more s t h k = omega (arith, ints)

    by_zero : (z : ℤ) → (z ≡ pos 0 → A) → ((z ≡ pos 0 → ⊥) → A) → A
    by_zero z zero other = by_lt_z (pos 0) z (λ h. other (λ e. omega (arith, ints)))
        (λ h. by_lt_z z (pos 0) (λ k. other (λ e. omega (arith, ints))) (λ k. zero (omega (arith, ints))))
