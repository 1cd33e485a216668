-- What is far from a segment is far from its parts, and stays far where the ends are moved by less than it is far.
use Rattle.std.proofs.Common.{◌≡◌, inl, inr, List, [], ◌∷◌, refl, ap, ap₂, ◌∙◌, arith}
use lib.IntN.{ℤ, pos, ◌+ℤ◌, ◌-ℤ◌, ◌*ℤ◌}
use lib.Signed.{◌<ℤ◌, ◌≤ℤ◌}
use Rattle.std.proofs.lemmas.Int.{ints}
use Rattle.scad_base.proofs.Products.{positive_product}
use Rattle.scad_geom.specs.Point.{Point}
use Rattle.scad_geom.specs.Near.{mean}
use Rattle.scad_geom.proofs.Ring.{ring, ◌⊕◌, ◌⊖◌, ◌⊗◌, v0, v1, v2, v3, v4, v5, v6, v7, v8, v9, v10, v11}
use Rattle.scad_geom.proofs.Signs.{at_least_mul}
use Rattle.winding_laws.specs.Region.{HalfPlane, Holds, square, AddUp}
use Rattle.winding_laws.specs.Nearness.{seen_from, IsNear, IsFar}
use Rattle.winding_laws.specs.Parts.{PartsAreFar, PartsAreClear, MovesStayFar, MovesStayClear}
use Rattle.winding_laws.specs.Points.{IsOn}
use Rattle.winding_laws.proofs.Regions.{scaled, added, holds_scaled, holds_added, holds_as}
use Rattle.winding_laws.proofs.Squares.{held_by, half_across, half_along, near_by_close, far_by_clear, clear_by_far}
use Rattle.winding_laws.proofs.Parts.{mean_on, parts_are_on, parts_are_all}
use Rattle.winding_laws.proofs.Weights.{some_weight}
use Rattle.scad_base.proofs.Integers.{at_most_of_less}

-- ---- parts
-- what is near to a point of a segment is near to a mean of its ends
on_near : (region : List HalfPlane) (q a b p : Point) (h : IsOn a b p) → IsNear region q p
    → IsNear region q (mean h.s h.t a b)
on_near region q a b p h n =
    holds_as region (scaled (seen_from q p) h.k) (seen_from q (mean h.s h.t a b))
    (one_axis h.k h.s h.t p.x p.d a.x a.d b.x b.d q.x q.d h.x h.d) (one_axis h.k h.s h.t p.y p.d a.y a.d b.y b.d q.y q.d
    h.y h.d) (weights h.k (h.s *ℤ a.d +ℤ h.t *ℤ b.d) p.d q.d h.d)
    (holds_scaled region (seen_from q p) h.k (at_most_of_less (pos 0) h.k h.positive) n)
  where
    one_axis : (k s t x d y e z f w g : ℤ) → k *ℤ x ≡ s *ℤ y +ℤ t *ℤ z
        → k *ℤ d ≡ s *ℤ e +ℤ t *ℤ f
        → (x *ℤ g -ℤ w *ℤ d) *ℤ k ≡ (s *ℤ y +ℤ t *ℤ z) *ℤ g -ℤ w *ℤ (s *ℤ e +ℤ t *ℤ f)
    one_axis k s t x d y e z f w g hx hd =
        ring (k ∷ x ∷ d ∷ w ∷ g ∷ []) ((v1 ⊗ v4 ⊖ v3 ⊗ v2) ⊗ v0)
        ((v0 ⊗ v1) ⊗ v4 ⊖ v3 ⊗ (v0 ⊗ v2)) refl
        ∙ ap₂ (λ (y z : ℤ). y *ℤ g -ℤ w *ℤ z) hx hd

    weights : (k m d g : ℤ) → k *ℤ d ≡ m → (d *ℤ g) *ℤ k ≡ m *ℤ g
    weights k m d g h = ring (k ∷ d ∷ g ∷ []) ((v1 ⊗ v2) ⊗ v0) ((v0 ⊗ v1) ⊗ v2) refl
        ∙ ap (λ (z : ℤ). z *ℤ g) h

-- what is far from a segment is near to none of its points
pub far_from : (region : List HalfPlane) (q a b p : Point) → IsFar region q a b → IsOn a b p
    → ¬ IsNear region q p
far_from region q a b p f h = λ n. f h.s h.t h.first h.second h.some (on_near region q a b p h n)

far_part : (region : List HalfPlane) (q a b c d : Point) → IsOn a b c → IsOn a b d → IsFar region q a b
    → IsFar region q c d
far_part region q a b c d hc hd f s t hs ht o n = far_from region q a b (mean s t c d) f
    (parts_are_on a b c d (mean s t c d) hc hd (mean_on s t hs ht o c d)) n

far_whole : (region : List HalfPlane) (q a b m : Point) → IsOn a b m → IsFar region q a m → IsFar region q m b
    → IsFar region q a b
far_whole region q a b m h f g s t hs ht o n =
    elim (parts_are_all a b m (mean s t a b) h (mean_on s t hs ht o a b)) [
      | inl p ↦ far_from region q a m (mean s t a b) f p n
      | inr p ↦ far_from region q m b (mean s t a b) g p n
    ]

pub parts_are_far : PartsAreFar
parts_are_far = record { part = far_part; whole = far_whole }

pub parts_are_clear : PartsAreClear
parts_are_clear = record {
  part = λ h q a b c d hc hd k. clear_by_far h q c d (far_part (square h) q a b c d hc hd (far_by_clear h q a b k));
  whole = λ h q a b m hm k l. clear_by_far h q a b (far_whole (square h) q a b m hm (far_by_clear h q a m k)
      (far_by_clear h q m b l));
}

-- ---- moved ends
module _ (q a b c d : Point) (u v : ℤ) where
  -- the weights of the ends before they were moved
  abbrev first_weight : ℤ
  first_weight = u *ℤ (c.d *ℤ b.d)

  abbrev second_weight : ℤ
  second_weight = v *ℤ (d.d *ℤ a.d)

  -- what the two moves add up to, and what q sees of the mean
  abbrev drift : Point
  drift = scaled (added (scaled (seen_from c a) (u *ℤ b.d)) (scaled (seen_from d b) (v *ℤ a.d))) q.d

  abbrev view : Point
  view = scaled (seen_from q (mean u v c d)) (a.d *ℤ b.d)

  one_axis : (u v x e y f z g w h p k : ℤ)
      → ((u *ℤ z +ℤ v *ℤ w) *ℤ k -ℤ p *ℤ (u *ℤ g +ℤ v *ℤ h)) *ℤ (e *ℤ f) +ℤ
      ((x *ℤ g -ℤ z *ℤ e) *ℤ (u *ℤ f) +ℤ (y *ℤ h -ℤ w *ℤ f) *ℤ (v *ℤ e)) *ℤ k
      ≡ ((u *ℤ (g *ℤ f)) *ℤ x +ℤ (v *ℤ (h *ℤ e)) *ℤ y) *ℤ k -ℤ p *ℤ
      ((u *ℤ (g *ℤ f)) *ℤ e +ℤ (v *ℤ (h *ℤ e)) *ℤ f)
  one_axis u v x e y f z g w h p k =
      ring (u ∷ v ∷ x ∷ e ∷ y ∷ f ∷ z ∷ g ∷ w ∷ h ∷ p ∷ k ∷ [])
      (((v0 ⊗ v6 ⊕ v1 ⊗ v8) ⊗ v11 ⊖ v10 ⊗ (v0 ⊗ v7 ⊕ v1 ⊗ v9)) ⊗ (v3 ⊗ v5)
      ⊕ ((v2 ⊗ v7 ⊖ v6 ⊗ v3) ⊗ (v0 ⊗ v5) ⊕
      (v4 ⊗ v9 ⊖ v8 ⊗ v5) ⊗ (v1 ⊗ v3)) ⊗ v11)
      (((v0 ⊗ (v7 ⊗ v5)) ⊗ v2 ⊕ (v1 ⊗ (v9 ⊗ v3)) ⊗ v4) ⊗ v11 ⊖ v10
      ⊗ ((v0 ⊗ (v7 ⊗ v5)) ⊗ v3 ⊕ (v1 ⊗ (v9 ⊗ v3)) ⊗ v5))
      refl

  drift_weight : (u v e f g h k : ℤ) → ((e *ℤ g) *ℤ (u *ℤ f) +ℤ (f *ℤ h) *ℤ (v *ℤ e)) *ℤ k
      ≡ ((u *ℤ g +ℤ v *ℤ h) *ℤ k)
      *ℤ (e *ℤ f)
  drift_weight u v e f g h k = ring (u ∷ v ∷ e ∷ f ∷ g ∷ h ∷ k ∷ [])
      (((v2 ⊗ v4) ⊗ (v0 ⊗ v3) ⊕ (v3 ⊗ v5) ⊗ (v1 ⊗ v2)) ⊗
      v6) (((v0 ⊗ v4 ⊕ v1 ⊗ v5) ⊗ v6) ⊗ (v2 ⊗ v3)) refl

  all_weight : (u v e f g h k : ℤ) → ((u *ℤ g +ℤ v *ℤ h) *ℤ k) *ℤ (e *ℤ f)
      ≡ ((u *ℤ (g *ℤ f)) *ℤ e +ℤ (v *ℤ (h *ℤ e)) *ℤ
      f) *ℤ k
  all_weight u v e f g h k = ring (u ∷ v ∷ e ∷ f ∷ g ∷ h ∷ k ∷ [])
      (((v0 ⊗ v4 ⊕ v1 ⊗ v5) ⊗ v6) ⊗ (v2 ⊗ v3))
      (((v0 ⊗ (v4 ⊗ v3)) ⊗ v2 ⊕ (v1 ⊗ (v5 ⊗ v2)) ⊗ v3) ⊗ v6) refl

  module _ (r s t : List HalfPlane) (sum : AddUp r s t) (dq : pos 0 <ℤ q.d) (da : pos 0 <ℤ a.d) (db : pos 0 <ℤ b.d) (hu : pos 0 ≤ℤ u) (hv : pos 0 ≤ℤ v) where
    drift_held : IsNear s c a → IsNear s d b → Holds s drift
    drift_held n m =
        holds_scaled s (added (scaled (seen_from c a) (u *ℤ b.d)) (scaled (seen_from d b) (v *ℤ a.d))) q.d
        (at_most_of_less (pos 0) q.d dq)
        (holds_added s (scaled (seen_from c a) (u *ℤ b.d)) (scaled (seen_from d b) (v *ℤ a.d))
        (holds_scaled s (seen_from c a) (u *ℤ b.d) (at_least_mul u b.d hu (at_most_of_less (pos 0) b.d db)) n)
        (holds_scaled s (seen_from d b) (v *ℤ a.d) (at_least_mul v a.d hv (at_most_of_less (pos 0) a.d da)) m))

    moved_near : IsNear s c a → IsNear s d b → IsNear r q (mean u v c d)
        → IsNear t q (mean first_weight second_weight a b)
    moved_near n m o =
        let seen : Holds r view = holds_scaled r (seen_from q (mean u v c d)) (a.d *ℤ b.d)
        (at_most_of_less (pos 0) (a.d *ℤ b.d) (positive_product a.d b.d da db)) o in
        let drifted : Holds s (record drift { d = view.d }) = holds_as s drift (record drift { d = view.d }) refl refl
        (drift_weight u v a.d b.d c.d d.d q.d) (drift_held n m) in
        holds_as t (record { x = view.x +ℤ drift.x; y = view.y +ℤ drift.y; d = view.d })
        (seen_from q (mean first_weight second_weight a b))
        (one_axis u v a.x a.d b.x b.d c.x c.d d.x d.d q.x q.d) (one_axis u v a.y a.d b.y b.d c.y c.d d.y d.d q.y q.d)
        (all_weight u v a.d b.d c.d d.d q.d)
        (sum.each view.x view.y drift.x drift.y view.d seen drifted)

pub moves_stay_far : MovesStayFar
moves_stay_far r s t sum q a b c d dq da db dc dd f n m u v hu hv o near =
    let cb : pos 0 <ℤ (c.d *ℤ b.d) = positive_product c.d b.d dc db in
    let de : pos 0 <ℤ (d.d *ℤ a.d) = positive_product d.d a.d dd da in
    f (u *ℤ (c.d *ℤ b.d)) (v *ℤ (d.d *ℤ a.d))
    (at_least_mul u (c.d *ℤ b.d) hu (at_most_of_less (pos 0) (c.d *ℤ b.d) cb))
    (at_least_mul v (d.d *ℤ a.d) hv (at_most_of_less (pos 0) (d.d *ℤ a.d) de))
    (some_weight u v (c.d *ℤ b.d) (d.d *ℤ a.d) hu hv o cb de)
    (moved_near q a b c d u v r s t sum dq da db hu hv n m near)

-- ---- squares
pub squares_add_up : (h k : ℤ) → AddUp (square h) (square k) (square (h +ℤ k))
squares_add_up h k = record {
  each = λ x y z w d a b.
      let same : (h +ℤ k) *ℤ d ≡ h *ℤ d +ℤ k *ℤ d = ring (h ∷ k ∷ d ∷ []) ((v0 ⊕ v1) ⊗ v2) (v0 ⊗ v2 ⊕ v1 ⊗ v2) refl in
      let p : Point = record { x = x; y = y; d = d } in
      let q : Point = record { x = z; y = w; d = d } in
      let px = half_across h p a in
      let py = half_along h p a in
      let qx = half_across k q b in
      let qy = half_along k q b in
      let pxf = px.from in
      let pxt = px.to in
      let pyf = py.from in
      let pyt = py.to in
      let qxf = qx.from in
      let qxt = qx.to in
      let qyf = qy.from in
      let qyt = qy.to in
      held_by (h +ℤ k) (record { x = x +ℤ z; y = y +ℤ w; d = d })
      (record { from = omega (arith, ints); to = omega (arith, ints) })
      (record { from = omega (arith, ints); to = omega (arith, ints) });
}

pub moves_stay_clear : MovesStayClear
moves_stay_clear h k q a b c d dq da db dc dd clear n m =
    clear_by_far h q c d
    (moves_stay_far (square h) (square k) (square (h +ℤ k)) (squares_add_up h k) q a b c d dq da db dc dd
    (far_by_clear (h +ℤ k) q a b clear) (near_by_close k c a n) (near_by_close k d b m))
