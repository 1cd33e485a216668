-- A move stays clear of sides that are apart from it, and these wind round all its points as round its start.
use Rattle.std.proofs.Common.{◌≡◌, ◌≢◌, ℕ, ◌-◌, ◌<◌, ◌≤◌, true, [], ◌∷◌, List, length, refl, ap, ap₂, sym, subst, ◌∙◌, arith, ℤ, pos, ◌+ℤ◌, ◌-ℤ◌, ◌*ℤ◌, ◌<ℤ◌}
use lib.Signed.{◌≤ℤ◌}
use Rattle.std.specs.Prelude.{All, slice_index_or}
use Rattle.std.specs.List.{Any}
use Rattle.std.proofs.lemmas.Int.{ints}
use Rattle.std.proofs.lemmas.List.Elements.{All-map, All-weaker}
use Rattle.scad_base.proofs.Products.{positive_product}
use Rattle.scad_geom.specs.declared.point.Pt.{Pt}
use Rattle.scad_geom.specs.declared.point.Edge.{Edge}
use Rattle.scad_geom.specs.declared.half.Half.TheVariants.{Whole}
use Rattle.scad_geom.specs.Half.{meant}
use Rattle.scad_geom.specs.Point.{Point, whole}
use Rattle.scad_geom.specs.Near.{mean}
use Rattle.scad_geom.specs.Segment.{segment_of, segments}
use Rattle.scad_geom.specs.Winding.{wind}
use Rattle.scad_geom.specs.Balance.{IsBalanced}
use Rattle.scad_geom.proofs.Signs.{at_least_mul, square_at_least}
use Rattle.scad_geom.proofs.Ring.{ring, num, ◌⊕◌, ◌⊖◌, ◌⊗◌, v0, v1, v2, v3, v4, v5}
use Rattle.winding_laws.specs.Region.{HalfPlane, HoldsOrigin, box}
use Rattle.winding_laws.specs.Nearness.{seen_from, IsNear, IsFarSegment}
use Rattle.winding_laws.specs.Points.{IsOn}
use Rattle.winding_laws.proofs.OneWinding.{regions_have_one_winding}
use Rattle.winding_laws.proofs.Ways.{way, by_length}
use Rattle.scad_ring.specs.Octagon.{reach, octagon}
use Rattle.scad_ring.specs.Nearness.{Closed, IsWithinRegion, IsClear}
use Rattle.plan_verify.specs.Stays.{clearance, KeepsClear}
use Rattle.scad_near.specs.Edges.{ComeNear, AreApart}
use Rattle.scad_near.proofs.RegionTurns.{Held, held_times, held_part, held_nearer, octagon_holds_origin}

-- ---- points of a move
axis_is : (k z e x d y f : ℤ) → k *ℤ z ≡ y → k *ℤ e ≡ f
    → k *ℤ (x *ℤ e -ℤ z *ℤ d) ≡ x *ℤ f -ℤ y *ℤ d
axis_is k z e x d y f g h =
    ring (k ∷ z ∷ e ∷ x ∷ d ∷ []) (v0 ⊗ (v3 ⊗ v2 ⊖ v1 ⊗ v4))
    (v3 ⊗ (v0 ⊗ v2) ⊖ (v0 ⊗ v1) ⊗ v4) refl
    ∙ ap₂ (λ (u w : ℤ). x *ℤ u -ℤ w *ℤ d) h g

divisor_is : (k e d f : ℤ) → k *ℤ e ≡ f → k *ℤ (d *ℤ e) ≡ d *ℤ f
divisor_is k e d f h = ring (k ∷ e ∷ d ∷ []) (v0 ⊗ (v2 ⊗ v1)) (v2 ⊗ (v0 ⊗ v1)) refl
    ∙ ap (λ (u : ℤ). d *ℤ u) h

-- what is near to a point of a segment is near to it as a mean of the ends
near_mean : (h u : ℤ) (a b q m : Point) (on : IsOn a b q) → IsWithinRegion Closed (octagon h u) q m
    → IsWithinRegion Closed (octagon h u) (mean on.s on.t a b) m
near_mean h u a b q m on near =
    let w : Point = mean on.s on.t a b in
    let k = on.k in
    let positive = on.positive in
    subst (λ (x : ℤ). Held (octagon h u) x (m.y *ℤ w.d -ℤ w.y *ℤ m.d) (m.d *ℤ w.d))
    (axis_is k q.x q.d m.x m.d w.x w.d on.x on.d)
    (subst (λ (y : ℤ). Held (octagon h u) (k *ℤ (m.x *ℤ q.d -ℤ q.x *ℤ m.d)) y (m.d *ℤ w.d))
    (axis_is k q.y q.d m.y m.d w.y w.d on.y on.d)
    (subst (λ (d : ℤ). Held (octagon h u) (k *ℤ (m.x *ℤ q.d -ℤ q.x *ℤ m.d))
    (k *ℤ (m.y *ℤ q.d -ℤ q.y *ℤ m.d)) d)
    (divisor_is k q.d m.d w.d on.d)
    (held_times (octagon h u) (m.x *ℤ q.d -ℤ q.x *ℤ m.d) (m.y *ℤ q.d -ℤ q.y *ℤ m.d) (m.d *ℤ q.d) k
    (omega (arith, ints, positive)) near)))

pub clear_on : (h u : ℤ) (a b c d q : Point) → AreApart Closed (octagon h u) a b c d → IsOn a b q
    → IsClear Closed (octagon h u) q c d
clear_on h u a b c d q apart on k l hk hl some near =
    apart on.s on.t on.first on.second on.some k l hk hl some (near_mean h u a b q (mean k l c d) on near)

pub on_mean : (a b : Point) (s t : ℤ) → pos 0 ≤ℤ s → pos 0 ≤ℤ t → pos 0 <ℤ (s +ℤ t)
    → IsOn a b (mean s t a b)
on_mean a b s t hs ht some = record {
  k = pos 1;
  s = s;
  t = t;
  positive = omega (arith, ints);
  first = hs;
  second = ht;
  some = some;
  x = omega (arith, ints);
  y = omega (arith, ints);
  d = omega (arith, ints);
}

-- the start of a move, over the divisor 2
pub on_start : (a b : Pt) → IsOn (whole a) (whole b) (meant Whole a)
on_start a b = record {
  k = pos 1;
  s = pos 2;
  t = pos 0;
  positive = omega (arith, ints);
  first = omega (arith, ints);
  second = omega (arith, ints);
  some = omega (arith, ints);
  x = omega (arith, ints);
  y = omega (arith, ints);
  d = refl;
}

-- ---- one place
-- points at one place are near
at_point : (h u : ℤ) → HoldsOrigin (octagon h u) → (q m : Point) → pos 0 <ℤ q.d → pos 0 <ℤ m.d
    → m.x *ℤ q.d -ℤ q.x *ℤ m.d ≡ pos 0 → m.y *ℤ q.d -ℤ q.y *ℤ m.d ≡ pos 0
    → IsWithinRegion Closed (octagon h u) q m
at_point h u origin q m hq hm x y =
    let p = positive_product m.d q.d hm hq in
    subst (λ (z : ℤ). Held (octagon h u) z (m.y *ℤ q.d -ℤ q.y *ℤ m.d) (m.d *ℤ q.d)) (sym x)
    (subst (λ (z : ℤ). Held (octagon h u) (pos 0) z (m.d *ℤ q.d)) (sym y)
    (held_nearer (octagon h u) (pos 0) (pos 0) (pos 1) (m.d *ℤ q.d) origin (omega (arith, ints, p)) origin))

times_zero : (j z : ℤ) → z ≡ pos 0 → j *ℤ z ≡ pos 0
times_zero j z e = ap (λ (x : ℤ). j *ℤ x) e ∙ ring (j ∷ []) (v0 ⊗ num (pos 0)) (num (pos 0)) refl

-- ---- one winding along a move
module _ (a b : Pt) where
  abbrev A : Point
  A = whole a

  abbrev B : Point
  B = whole b

  -- how far the end of the move is from its start
  abbrev D : Point
  D = seen_from A B

  along_axis : (k z e s t x y : ℤ) → k *ℤ z ≡ s *ℤ x +ℤ t *ℤ y
      → k *ℤ e ≡ s *ℤ pos 1 +ℤ t *ℤ pos 1
      → t *ℤ (y *ℤ pos 1 -ℤ x *ℤ pos 1) ≡ k *ℤ (z *ℤ pos 1 -ℤ x *ℤ e)
  along_axis k z e s t x y g h =
      ring (s ∷ t ∷ x ∷ y ∷ []) (v1 ⊗ (v3 ⊗ num (pos 1) ⊖ v2 ⊗ num (pos 1)))
      ((v0 ⊗ v2 ⊕ v1 ⊗ v3) ⊖ v2 ⊗ (v0 ⊗ num (pos 1) ⊕ v1 ⊗ num (pos 1))) refl
      ∙ ap₂ (λ (u w : ℤ). u -ℤ x *ℤ w) (sym g) (sym h)
      ∙ ring (k ∷ z ∷ e ∷ x ∷ []) (v0 ⊗ v1 ⊖ v3 ⊗ (v0 ⊗ v2))
      (v0 ⊗ (v1 ⊗ num (pos 1) ⊖ v3 ⊗ v2)) refl

  along_divisor : (k e s t : ℤ) → k *ℤ e ≡ s *ℤ pos 1 +ℤ t *ℤ pos 1 → s +ℤ t ≡ k *ℤ (e *ℤ pos 1)
  along_divisor k e s t h =
      ring (s ∷ t ∷ []) (v0 ⊕ v1) (v0 ⊗ num (pos 1) ⊕ v1 ⊗ num (pos 1)) refl ∙ sym h
      ∙ ring (k ∷ e ∷ []) (v0 ⊗ v1) (v0 ⊗ (v1 ⊗ num (pos 1))) refl

  -- a region that holds the points of the way from the start holds the points of the move as the start sees them
  near_on : (region : List HalfPlane)
      → ((s t : ℤ) → pos 0 ≤ℤ s → pos 0 ≤ℤ t → Held region (t *ℤ D.x) (t *ℤ D.y) (s +ℤ t))
      → (q : Point) → IsOn A B q → IsNear region A q
  near_on region held q on =
      held_part region (q.x *ℤ pos 1 -ℤ a.x *ℤ q.d) (q.y *ℤ pos 1 -ℤ a.y *ℤ q.d) (q.d *ℤ pos 1) on.k
      on.positive
      (subst (λ (x : ℤ). Held region x (on.k *ℤ (q.y *ℤ pos 1 -ℤ a.y *ℤ q.d)) (on.k *ℤ (q.d *ℤ pos 1)))
      (along_axis on.k q.x q.d on.s on.t a.x b.x on.x on.d)
      (subst (λ (y : ℤ). Held region (on.t *ℤ D.x) y (on.k *ℤ (q.d *ℤ pos 1)))
      (along_axis on.k q.y q.d on.s on.t a.y b.y on.y on.d)
      (subst (λ (d : ℤ). Held region (on.t *ℤ D.x) (on.t *ℤ D.y) d) (along_divisor on.k q.d on.s on.t on.d)
      (held on.s on.t on.first on.second))))

  -- ---- where the move has a length
  cross_is : (t x y d : ℤ) → y *ℤ (t *ℤ x) +ℤ (pos 0 -ℤ x) *ℤ (t *ℤ y) ≡ pos 0 *ℤ d
  cross_is t x y d = ring (t ∷ x ∷ y ∷ d ∷ []) (v2 ⊗ (v0 ⊗ v1) ⊕ (num (pos 0) ⊖ v1) ⊗ (v0 ⊗ v2))
      (num (pos 0) ⊗ v3) refl

  cross_back : (t x y d : ℤ) → (pos 0 -ℤ y) *ℤ (t *ℤ x) +ℤ x *ℤ (t *ℤ y) ≡ pos 0 *ℤ d
  cross_back t x y d = ring (t ∷ x ∷ y ∷ d ∷ []) ((num (pos 0) ⊖ v2) ⊗ (v0 ⊗ v1) ⊕ v1 ⊗ (v0 ⊗ v2))
      (num (pos 0) ⊗ v3) refl

  behind_is : (t x y d : ℤ) → (pos 0 -ℤ x) *ℤ (t *ℤ x) +ℤ (pos 0 -ℤ y) *ℤ (t *ℤ y)
      ≡ pos 0 *ℤ d -ℤ t *ℤ (x *ℤ x +ℤ y *ℤ y)
  behind_is t x y d = ring (t ∷ x ∷ y ∷ d ∷ [])
      ((num (pos 0) ⊖ v1) ⊗ (v0 ⊗ v1) ⊕ (num (pos 0) ⊖ v2) ⊗ (v0 ⊗ v2))
      (num (pos 0) ⊗ v3 ⊖ v0 ⊗ (v1 ⊗ v1 ⊕ v2 ⊗ v2)) refl

  far_is : (s t x y : ℤ) → (x *ℤ (pos 1 *ℤ pos 1)) *ℤ (t *ℤ x) +ℤ (y *ℤ (pos 1 *ℤ pos 1)) *ℤ
      (t *ℤ y)
      ≡ (x *ℤ x +ℤ y *ℤ y) *ℤ (s +ℤ t) -ℤ s *ℤ (x *ℤ x +ℤ y *ℤ y)
  far_is s t x y = ring (s ∷ t ∷ x ∷ y ∷ [])
      ((v2 ⊗ num (pos 1)) ⊗ (v1 ⊗ v2) ⊕ (v3 ⊗ num (pos 1)) ⊗ (v1 ⊗ v3))
      ((v2 ⊗ v2 ⊕ v3 ⊗ v3) ⊗ (v0 ⊕ v1) ⊖ v0 ⊗ (v2 ⊗ v2 ⊕ v3 ⊗ v3)) refl

  length_least : pos 0 ≤ℤ (D.x *ℤ D.x +ℤ D.y *ℤ D.y)
  length_least = let p = square_at_least D.x in let q = square_at_least D.y in omega (arith, ints, p, q)

  on_way : (s t : ℤ) → pos 0 ≤ℤ s → pos 0 ≤ℤ t → Held (way D) (t *ℤ D.x) (t *ℤ D.y) (s +ℤ t)
  on_way s t hs ht =
      let e = cross_is t D.x D.y (s +ℤ t) in
      let f = cross_back t D.x D.y (s +ℤ t) in
      let g = behind_is t D.x D.y (s +ℤ t) in
      let h = far_is s t D.x D.y in
      let p = at_least_mul t (D.x *ℤ D.x +ℤ D.y *ℤ D.y) ht length_least in
      let q = at_least_mul s (D.x *ℤ D.x +ℤ D.y *ℤ D.y) hs length_least in (
        omega (arith, ints, e),
        (omega (arith, ints, f), (omega (arith, ints, g, p), (omega (arith, ints, h, q), tt))),
      )

  -- what a point on the way says: its weights
  gap_x : (x y z w : ℤ) → (x *ℤ x +ℤ y *ℤ y) *ℤ z -ℤ (z *ℤ x +ℤ w *ℤ y) *ℤ x
      ≡ y *ℤ (z *ℤ y -ℤ w *ℤ x)
  gap_x x y z w = ring (x ∷ y ∷ z ∷ w ∷ [])
      ((v0 ⊗ v0 ⊕ v1 ⊗ v1) ⊗ v2 ⊖ (v2 ⊗ v0 ⊕ v3 ⊗ v1) ⊗ v0)
      (v1 ⊗ (v2 ⊗ v1 ⊖ v3 ⊗ v0)) refl

  gap_y : (x y z w : ℤ) → (x *ℤ x +ℤ y *ℤ y) *ℤ w -ℤ (z *ℤ x +ℤ w *ℤ y) *ℤ y
      ≡ x *ℤ (pos 0 -ℤ (z *ℤ y -ℤ w *ℤ x))
  gap_y x y z w = ring (x ∷ y ∷ z ∷ w ∷ [])
      ((v0 ⊗ v0 ⊕ v1 ⊗ v1) ⊗ v3 ⊖ (v2 ⊗ v0 ⊕ v3 ⊗ v1) ⊗ v1)
      (v0 ⊗ (num (pos 0) ⊖ (v2 ⊗ v1 ⊖ v3 ⊗ v0))) refl

  place_is : (x d p q l g : ℤ)
      → x *ℤ ((l *ℤ d -ℤ g) *ℤ pos 1 +ℤ g *ℤ pos 1) -ℤ ((l *ℤ d -ℤ g) *ℤ p +ℤ g *ℤ q) *ℤ d
      ≡ d *ℤ (l *ℤ (x *ℤ pos 1 -ℤ p *ℤ d) -ℤ g *ℤ (q *ℤ pos 1 -ℤ p *ℤ pos 1))
  place_is x d p q l g = ring (x ∷ d ∷ p ∷ q ∷ l ∷ g ∷ [])
      (v0 ⊗ ((v4 ⊗ v1 ⊖ v5) ⊗ num (pos 1) ⊕ v5 ⊗ num (pos 1)) ⊖ ((v4 ⊗ v1 ⊖ v5) ⊗ v2 ⊕ v5 ⊗ v3)
      ⊗ v1)
      (v1 ⊗ (v4 ⊗ (v0 ⊗ num (pos 1) ⊖ v2 ⊗ v1) ⊖ v5 ⊗ (v3 ⊗ num (pos 1) ⊖ v2 ⊗ num (pos 1)))) refl

  side_is : (x y z w : ℤ) → y *ℤ z +ℤ (pos 0 -ℤ x) *ℤ w ≡ z *ℤ y -ℤ w *ℤ x
  side_is x y z w = ring (x ∷ y ∷ z ∷ w ∷ []) (v1 ⊗ v2 ⊕ (num (pos 0) ⊖ v0) ⊗ v3)
      (v2 ⊗ v1 ⊖ v3 ⊗ v0) refl

  side_back : (x y z w : ℤ) → (pos 0 -ℤ y) *ℤ z +ℤ x *ℤ w ≡ pos 0 -ℤ (z *ℤ y -ℤ w *ℤ x)
  side_back x y z w = ring (x ∷ y ∷ z ∷ w ∷ []) ((num (pos 0) ⊖ v1) ⊗ v2 ⊕ v0 ⊗ v3)
      (num (pos 0) ⊖ (v2 ⊗ v1 ⊖ v3 ⊗ v0)) refl

  ahead_is : (x y z w : ℤ) → (pos 0 -ℤ x) *ℤ z +ℤ (pos 0 -ℤ y) *ℤ w
      ≡ pos 0 -ℤ (z *ℤ x +ℤ w *ℤ y)
  ahead_is x y z w = ring (x ∷ y ∷ z ∷ w ∷ []) ((num (pos 0) ⊖ v0) ⊗ v2 ⊕ (num (pos 0) ⊖ v1) ⊗ v3)
      (num (pos 0) ⊖ (v2 ⊗ v0 ⊕ v3 ⊗ v1)) refl

  before_is : (x y z w : ℤ) → (x *ℤ (pos 1 *ℤ pos 1)) *ℤ z +ℤ (y *ℤ (pos 1 *ℤ pos 1)) *ℤ w
      ≡ z *ℤ x +ℤ w *ℤ y
  before_is x y z w = ring (x ∷ y ∷ z ∷ w ∷ []) ((v0 ⊗ num (pos 1)) ⊗ v2 ⊕ (v1 ⊗ num (pos 1)) ⊗ v3)
      (v2 ⊗ v0 ⊕ v3 ⊗ v1) refl

  none_times : (d : ℤ) → pos 0 *ℤ d ≡ pos 0
  none_times d = ring (d ∷ []) (num (pos 0) ⊗ v0) (num (pos 0)) refl

  times_one : (l d : ℤ) → l *ℤ (d *ℤ pos 1) ≡ l *ℤ d
  times_one l d = ring (l ∷ d ∷ []) (v0 ⊗ (v1 ⊗ num (pos 1))) (v0 ⊗ v1) refl

  weights_sum : (l d g : ℤ) → (l *ℤ d -ℤ g) +ℤ g ≡ l *ℤ d
  weights_sum l d g = omega (arith, ints)

  module _ (h u : ℤ) (origin : HoldsOrigin (octagon h u)) (c e : Pt)
      (apart : AreApart Closed (octagon h u) A B (whole c) (whole e)) where
    -- the weights by which a point of the side that lies on the way is a point of the move
    on_way_near : pos 0 <ℤ (D.x *ℤ D.x +ℤ D.y *ℤ D.y) → (k l : ℤ) → pos 0 ≤ℤ k → pos 0 ≤ℤ l
        → pos 0 <ℤ (k +ℤ l) → IsNear (way D) A (mean k l (whole c) (whole e)) → ⊥
    on_way_near more k l hk hl some near =
        let m : Point = mean k l (whole c) (whole e) in
        let z : ℤ = m.x *ℤ pos 1 -ℤ a.x *ℤ m.d in
        let w : ℤ = m.y *ℤ pos 1 -ℤ a.y *ℤ m.d in
        let n : ℤ = D.x *ℤ D.x +ℤ D.y *ℤ D.y in
        let g : ℤ = z *ℤ D.x +ℤ w *ℤ D.y in
        let hm : pos 0 <ℤ m.d = omega (arith, ints, some) in
        let h0 = near.0 in
        let h1 = near.1.0 in
        let h2 = near.1.1.0 in
        let h3 = near.1.1.1.0 in
        let o = none_times (m.d *ℤ pos 1) in
        let e0 = side_is D.x D.y z w in
        let e1 = side_back D.x D.y z w in
        let e2 = ahead_is D.x D.y z w in
        let e3 = before_is D.x D.y z w in
        let e4 = times_one n m.d in
        let off : z *ℤ D.y -ℤ w *ℤ D.x ≡ pos 0 = omega (arith, ints, h0, h1, o, e0, e1) in
        let back : pos 0 -ℤ (z *ℤ D.y -ℤ w *ℤ D.x) ≡ pos 0 = omega (arith, ints, off) in
        let hg : pos 0 ≤ℤ g = omega (arith, ints, h2, o, e2) in
        let hs : pos 0 ≤ℤ (n *ℤ m.d -ℤ g) = omega (arith, ints, h3, e3, e4) in
        let p = positive_product n m.d more hm in
        let st : pos 0 <ℤ ((n *ℤ m.d -ℤ g) +ℤ g) = omega (arith, ints, p) in
        apart (n *ℤ m.d -ℤ g) g hs hg st k l hk hl some
        (at_point h u origin (mean (n *ℤ m.d -ℤ g) g A B) m (omega (arith, ints, st)) hm
        (place_is m.x m.d a.x b.x n g ∙ times_zero m.d (n *ℤ z -ℤ g *ℤ D.x)
        (gap_x D.x D.y z w ∙ times_zero D.y (z *ℤ D.y -ℤ w *ℤ D.x) off))
        (place_is m.y m.d a.y b.y n g ∙ times_zero m.d (n *ℤ w -ℤ g *ℤ D.y)
        (gap_y D.x D.y z w ∙ times_zero D.x (pos 0 -ℤ (z *ℤ D.y -ℤ w *ℤ D.x)) back)))

    start_is : (x p q d : ℤ) → x *ℤ (pos 1 *ℤ pos 1 +ℤ pos 0 *ℤ pos 1) -ℤ (pos 1 *ℤ p +ℤ pos 0 *ℤ q)
        *ℤ d
        ≡ x *ℤ pos 1 -ℤ p *ℤ d
    start_is x p q d = ring (x ∷ p ∷ q ∷ d ∷ [])
        (v0 ⊗ num (pos 1) ⊖ (num (pos 1) ⊗ v1 ⊕ num (pos 0) ⊗ v2) ⊗ v3)
        (v0 ⊗ num (pos 1) ⊖ v1 ⊗ v3) refl

    at_start_near : (k l : ℤ) → pos 0 ≤ℤ k → pos 0 ≤ℤ l → pos 0 <ℤ (k +ℤ l)
        → IsNear (box (pos 1) (pos 0)) A (mean k l (whole c) (whole e)) → ⊥
    at_start_near k l hk hl some near =
        let m : Point = mean k l (whole c) (whole e) in
        let hm : pos 0 <ℤ m.d = omega (arith, ints, some) in
        let h0 = near.0 in
        let h1 = near.1.0 in
        let h2 = near.1.1.0 in
        let h3 = near.1.1.1.0 in
        apart (pos 1) (pos 0) (omega (arith, ints)) (omega (arith, ints)) (omega (arith, ints)) k l hk hl some
        (at_point h u origin (mean (pos 1) (pos 0) A B) m (omega (arith, ints)) hm
        (start_is m.x a.x b.x m.d ∙ (omega (arith, ints, h0, h1)))
        (start_is m.y a.y b.y m.d ∙ (omega (arith, ints, h2, h3))))

  abbrev Apart : ℤ → ℤ → Edge → Type 0
  Apart h u e = AreApart Closed (octagon h u) A B (whole e.a) (whole e.b)

  far_way : (h u : ℤ) → HoldsOrigin (octagon h u) → pos 0 <ℤ (D.x *ℤ D.x +ℤ D.y *ℤ D.y)
      → (es : List Edge) → All (Apart h u) es → All (IsFarSegment (way D) A) (segments es)
  far_way h u origin more es all = All-map (IsFarSegment (way D) A) segment_of es
      (All-weaker (Apart h u) (λ e. IsFarSegment (way D) A (segment_of e)) (λ e o. record {
        proper = record { from = omega (arith, ints); to = omega (arith, ints) };
        far = on_way_near h u origin e.a e.b o more;
      }) es all)

  far_start : (h u : ℤ) → HoldsOrigin (octagon h u) → (es : List Edge)
      → All (Apart h u) es → All (IsFarSegment (box (pos 1) (pos 0)) A) (segments es)
  far_start h u origin es all = All-map (IsFarSegment (box (pos 1) (pos 0)) A) segment_of es
      (All-weaker (Apart h u) (λ e. IsFarSegment (box (pos 1) (pos 0)) A (segment_of e)) (λ e o. record {
        proper = record { from = omega (arith, ints); to = omega (arith, ints) };
        far = at_start_near h u origin e.a e.b o;
      }) es all)

  on_box : D.x ≡ pos 0 → D.y ≡ pos 0 → (s t : ℤ) → pos 0 ≤ℤ s → pos 0 ≤ℤ t
      → Held (box (pos 1) (pos 0)) (t *ℤ D.x) (t *ℤ D.y) (s +ℤ t)
  on_box ex ey s t hs ht =
      let e = times_zero t D.x ex in
      let f = times_zero t D.y ey in
      let o = none_times (s +ℤ t) in (
        omega (arith, ints, e, f),
        (omega (arith, ints, e, f), (omega (arith, ints, e, f), (omega (arith, ints, e, f), tt))),
      )

  -- the sides wind round each point of the move as round its start
  pub one_wind : (h u : ℤ) → HoldsOrigin (octagon h u) → (es : List Edge) → IsBalanced (segments es)
      → All (Apart h u) es → (q : Point) → pos 0 <ℤ q.d → IsOn A B q
      → wind q (segments es) ≡ wind (meant Whole a) (segments es)
  one_wind h u origin es balanced all q hq on = by_length D
      (λ more. regions_have_one_winding (way D) true true A (meant Whole a) q (omega (arith, ints))
      (omega (arith, ints)) hq
      (near_on (way D) on_way (meant Whole a) (on_start a b)) (near_on (way D) on_way q on) (segments es) balanced
      (far_way h u origin more es all))
      (λ ex ey. regions_have_one_winding (box (pos 1) (pos 0)) true true A (meant Whole a) q (omega (arith, ints))
      (omega (arith, ints)) hq (near_on (box (pos 1) (pos 0)) (on_box ex ey) (meant Whole a) (on_start a b))
      (near_on (box (pos 1) (pos 0)) (on_box ex ey) q on) (segments es) balanced (far_start h u origin es all))

clearance_is : (c h u : ℕ) → 1 ≤ c → 2 ≤ reach c → h ≡ c - 1 → u ≡ reach c - 2
    → octagon (pos h) (pos u) ≡ clearance c
clearance_is c h u lc lr eh eu =
    let e : pos h ≡ pos c -ℤ pos 1 = omega (arith, ints, lc, eh) in
    let f : pos u ≡ pos (reach c) -ℤ pos 2 = less_two u (reach c) lr eu in
    ap₂ octagon e f
  where
    less_two : (u r : ℕ) → 2 ≤ r → u ≡ r - 2 → pos u ≡ pos r -ℤ pos 2
    less_two u r l e = omega (arith, ints, l, e)

-- ---- a move keeps clear exactly where the sides are apart from it and wind round its start
pub kept_if : (es : List Edge) (c h u : ℕ) (line : Edge) → 1 ≤ c → 2 ≤ reach c → h ≡ c - 1
    → u ≡ reach c - 2 → IsBalanced (segments es)
    → All (λ e. AreApart Closed (octagon (pos h) (pos u)) (whole line.a) (whole line.b) (whole e.a) (whole e.b)) es
    → wind (meant Whole line.a) (segments es) ≢ pos 0 → KeepsClear es c line
kept_if es c h u line lc lr eh eu balanced apart some q hq on =
    let origin = octagon_holds_origin (pos h) (pos u) (omega (arith, ints)) (omega (arith, ints)) in
    record {
      clear = All-weaker (λ e. AreApart Closed (octagon (pos h) (pos u)) (whole line.a) (whole line.b) (whole e.a)
          (whole e.b))
          (λ e. IsClear Closed (clearance c) q (whole e.a) (whole e.b))
          (λ e o. subst (λ (r : List HalfPlane). IsClear Closed r q (whole e.a) (whole e.b))
          (clearance_is c h u lc lr eh eu)
          (clear_on (pos h) (pos u) (whole line.a) (whole line.b) (whole e.a) (whole e.b) q o on)) es apart;
      inside = λ e. some (sym (one_wind line.a line.b (pos h) (pos u) origin es balanced apart q hq on) ∙ e);
    }

pub apart_if_kept : (es : List Edge) (c : ℕ) (line : Edge) → KeepsClear es c line → (k : ℕ) (d : Edge)
    → k < length es
    → AreApart Closed (clearance c) (whole line.a) (whole line.b) (whole (slice_index_or es k d).a)
    (whole (slice_index_or es k d).b)
apart_if_kept es c line keeps k d l s t hs ht some =
    (keeps (mean s t (whole line.a) (whole line.b)) (omega (arith, ints, some))
    (on_mean (whole line.a) (whole line.b) s t hs ht some)).clear k d l

pub not_kept_near : (es : List Edge) (c h u : ℕ) (line : Edge) → 1 ≤ c → 2 ≤ reach c → h ≡ c - 1
    → u ≡ reach c - 2
    → Any (λ e. ComeNear Closed (octagon (pos h) (pos u)) (whole line.a) (whole line.b) (whole e.a) (whole e.b)) es
    → KeepsClear es c line → ⊥
not_kept_near es c h u line lc lr eh eu (k, e, l, same, near) keeps =
    let at = subst (λ (e : Edge). AreApart Closed (clearance c) (whole line.a) (whole line.b) (whole e.a) (whole e.b)) same
    (apart_if_kept es c line keeps k e l) in
    let o : AreApart Closed (octagon (pos h) (pos u)) (whole line.a) (whole line.b) (whole e.a) (whole e.b) =
    subst (λ (r : List HalfPlane). AreApart Closed r (whole line.a) (whole line.b) (whole e.a) (whole e.b))
    (sym (clearance_is c h u lc lr eh eu)) at in
    o near.s near.t near.from near.to near.some near.meets.s near.meets.t near.meets.from near.meets.to near.meets.some
    near.meets.near

pub not_kept_out : (es : List Edge) (c : ℕ) (line : Edge) → wind (meant Whole line.a) (segments es) ≡ pos 0
    → KeepsClear es c line → ⊥
not_kept_out es c line none keeps = (keeps (meant Whole line.a) (omega (arith, ints)) (on_start line.a line.b)).inside
    none
