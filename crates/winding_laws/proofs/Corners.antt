-- A triangle whose corners lie near to ends of a segment doesn't go round the origin, where no point of the segment
-- lies near
-- to the origin.
use Rattle.std.proofs.Common.{◌≡◌, List, [], ◌∷◌, refl, ap, ◌∙◌, arith}
use lib.IntN.{ℤ, pos, ◌+ℤ◌, ◌-ℤ◌, ◌*ℤ◌}
use lib.Signed.{◌<ℤ◌, ◌≤ℤ◌}
use Rattle.std.proofs.lemmas.Int.{ints}
use Rattle.scad_base.proofs.Products.{positive_product}
use Rattle.scad_geom.specs.Point.{Point}
use Rattle.scad_geom.proofs.Ring.{ring, num, ◌⊕◌, ◌⊖◌, ◌⊗◌, v0, v1, v2, v3, v4, v5, v6, v7, v8, v9, v10, v11, v12}
use Rattle.scad_geom.proofs.Signs.{at_least_mul, sum_at_least, sub_times_zero}
use Rattle.winding_laws.specs.Region.{HalfPlane, Holds}
use Rattle.winding_laws.specs.Nearness.{seen_from, IsNear}
use Rattle.scad_geom.specs.Near.{mean}
use Rattle.winding_laws.proofs.Views.{cross}
use Rattle.winding_laws.proofs.Triangles.{IsRound}
use Rattle.winding_laws.proofs.Regions.{scaled, added, holds_scaled, holds_added, holds_as}
use Rattle.winding_laws.proofs.Weights.{some_of_three}
use Rattle.scad_base.proofs.Integers.{at_most_of_less}
use Rattle.std.proofs.Math.IntN.{+ℤ_comm}

-- no point of the segment from a to b is one of the region's
abbrev pub IsAway : List HalfPlane → Point → Point → Type 0
IsAway region a b = (s t : ℤ) → pos 0 ≤ℤ s → pos 0 ≤ℤ t → pos 0 <ℤ (s +ℤ t)
    → Holds region (mean s t a b) → ⊥

-- turned round
pub away_turned : (region : List HalfPlane) (a b : Point) → IsAway region a b → IsAway region b a
away_turned region a b n s t hs ht o h =
    n t s ht hs (swapped s t o) (holds_as region (mean s t b a) (mean t s a b) (+ℤ_comm (s *ℤ b.x) (t *ℤ a.x))
    (+ℤ_comm (s *ℤ b.y) (t *ℤ a.y)) (+ℤ_comm (s *ℤ b.d) (t *ℤ a.d)) h)
  where
    swapped : (s t : ℤ) → pos 0 <ℤ (s +ℤ t) → pos 0 <ℤ (t +ℤ s)
    swapped s t o = omega (arith, ints)

-- the weights of the corners of a triangle round the origin: the origin is their sum
module _ (region : List HalfPlane) (a b p q r : Point) (da : pos 0 <ℤ a.d) (db : pos 0 <ℤ b.d) (dp : pos 0 <ℤ p.d)
    (dq : pos 0 <ℤ q.d) (dr : pos 0 <ℤ r.d)
    (np : IsNear region p a) (nq : IsNear region q b) (nr : IsNear region r b) where
  one_axis : (u v w x y z f g h c e d k : ℤ) → u *ℤ x +ℤ (v *ℤ y +ℤ w *ℤ z) ≡ pos 0
      → (c *ℤ f -ℤ x *ℤ e) *ℤ (u *ℤ k) +ℤ
      ((d *ℤ g -ℤ y *ℤ k) *ℤ (v *ℤ e) +ℤ (d *ℤ h -ℤ z *ℤ k) *ℤ (w *ℤ e))
      ≡ (u *ℤ (f *ℤ k)) *ℤ c +ℤ (v *ℤ (g *ℤ e) +ℤ w *ℤ (h *ℤ e)) *ℤ d
  one_axis u v w x y z f g h c e d k o =
      ring (u ∷ v ∷ w ∷ x ∷ y ∷ z ∷ f ∷ g ∷ h ∷ c ∷ e ∷ d ∷ k ∷ [])
      ((v9 ⊗ v6 ⊖ v3 ⊗ v10) ⊗ (v0 ⊗ v12)
      ⊕ ((v11 ⊗ v7 ⊖ v4 ⊗ v12) ⊗ (v1 ⊗ v10) ⊕ (v11 ⊗ v8 ⊖ v5 ⊗ v12) ⊗ (v2 ⊗ v10)))
      (((v0 ⊗ (v6 ⊗ v12)) ⊗ v9 ⊕ (v1 ⊗ (v7 ⊗ v10) ⊕ v2 ⊗ (v8 ⊗ v10)) ⊗ v11) ⊖ (v10 ⊗ v12) ⊗
      (v0 ⊗ v3 ⊕ (v1 ⊗ v4 ⊕ v2 ⊗ v5))) refl
      ∙ ap (λ (s : ℤ). ((u *ℤ (f *ℤ k)) *ℤ c +ℤ (v *ℤ (g *ℤ e) +ℤ w *ℤ (h *ℤ e)) *ℤ d) -ℤ
      (e *ℤ k) *ℤ s) o
      ∙ sub_times_zero ((u *ℤ (f *ℤ k)) *ℤ c +ℤ (v *ℤ (g *ℤ e) +ℤ w *ℤ (h *ℤ e)) *ℤ d) (e *ℤ k)

  weights : (u v w f g h e k : ℤ) → (e *ℤ f) *ℤ (u *ℤ k) +ℤ
      ((k *ℤ g) *ℤ (v *ℤ e) +ℤ (k *ℤ h) *ℤ (w *ℤ e))
      ≡ (u *ℤ (f *ℤ k)) *ℤ e +ℤ (v *ℤ (g *ℤ e) +ℤ w *ℤ (h *ℤ e)) *ℤ k
  weights u v w f g h e k =
      ring (u ∷ v ∷ w ∷ f ∷ g ∷ h ∷ e ∷ k ∷ [])
      ((v6 ⊗ v3) ⊗ (v0 ⊗ v7) ⊕ ((v7 ⊗ v4) ⊗ (v1 ⊗ v6) ⊕ (v7 ⊗ v5) ⊗ (v2 ⊗ v6)))
      ((v0 ⊗ (v3 ⊗ v7)) ⊗ v6 ⊕ (v1 ⊗ (v4 ⊗ v6) ⊕ v2 ⊗ (v5 ⊗ v6)) ⊗ v7) refl

  origin_x : cross q r *ℤ p.x +ℤ (cross r p *ℤ q.x +ℤ cross p q *ℤ r.x) ≡ pos 0
  unfolding cross
  origin_x = ring (p.x ∷ p.y ∷ q.x ∷ q.y ∷ r.x ∷ r.y ∷ [])
      ((v2 ⊗ v5 ⊖ v3 ⊗ v4) ⊗ v0 ⊕ ((v4 ⊗ v1 ⊖ v5 ⊗ v0) ⊗ v2 ⊕ (v0 ⊗ v3 ⊖ v1 ⊗ v2) ⊗ v4))
      (num (pos 0)) refl

  origin_y : cross q r *ℤ p.y +ℤ (cross r p *ℤ q.y +ℤ cross p q *ℤ r.y) ≡ pos 0
  unfolding cross
  origin_y = ring (p.x ∷ p.y ∷ q.x ∷ q.y ∷ r.x ∷ r.y ∷ [])
      ((v2 ⊗ v5 ⊖ v3 ⊗ v4) ⊗ v1 ⊕ ((v4 ⊗ v1 ⊖ v5 ⊗ v0) ⊗ v3 ⊕ (v0 ⊗ v3 ⊖ v1 ⊗ v2) ⊗ v5))
      (num (pos 0)) refl

  pub not_round : IsAway region a b → ¬ IsRound p q r
  not_round away = λ round.
      let u : ℤ = cross q r in
      let v : ℤ = cross r p in
      let w : ℤ = cross p q in
      let first : pos 0 ≤ℤ u = round.first in
      let second : pos 0 ≤ℤ v = round.second in
      let last : pos 0 ≤ℤ w = round.third in
      let fk : pos 0 <ℤ (p.d *ℤ b.d) = positive_product p.d b.d dp db in
      let ge : pos 0 <ℤ (q.d *ℤ a.d) = positive_product q.d a.d dq da in
      let he : pos 0 <ℤ (r.d *ℤ a.d) = positive_product r.d a.d dr da in
      let s : ℤ = u *ℤ (p.d *ℤ b.d) in
      let t : ℤ = v *ℤ (q.d *ℤ a.d) +ℤ w *ℤ (r.d *ℤ a.d) in
      let sum : Point = added (scaled (seen_from p a) (u *ℤ b.d)) (added (scaled (seen_from q b) (v *ℤ a.d))
      (scaled (seen_from r b) (w *ℤ a.d))) in
      let held : Holds region sum =
      holds_added region (scaled (seen_from p a) (u *ℤ b.d)) (added (scaled (seen_from q b) (v *ℤ a.d))
      (scaled (seen_from r b) (w *ℤ a.d)))
      (holds_scaled region (seen_from p a) (u *ℤ b.d) (at_least_mul u b.d first (at_most_of_less (pos 0) b.d db)) np)
      (holds_added region (scaled (seen_from q b) (v *ℤ a.d)) (scaled (seen_from r b) (w *ℤ a.d))
      (holds_scaled region (seen_from q b) (v *ℤ a.d) (at_least_mul v a.d second (at_most_of_less (pos 0) a.d da)) nq)
      (holds_scaled region (seen_from r b) (w *ℤ a.d) (at_least_mul w a.d last (at_most_of_less (pos 0) a.d da)) nr)) in
      away s t (at_least_mul u (p.d *ℤ b.d) first (at_most_of_less (pos 0) (p.d *ℤ b.d) fk))
      (sum_at_least (v *ℤ (q.d *ℤ a.d)) (w *ℤ (r.d *ℤ a.d)) (at_least_mul v (q.d *ℤ a.d) second
      (at_most_of_less (pos 0) (q.d *ℤ a.d) ge)) (at_least_mul w (r.d *ℤ a.d) last
      (at_most_of_less (pos 0) (r.d *ℤ a.d) he)))
      (some_of_three u v w (p.d *ℤ b.d) (q.d *ℤ a.d) (r.d *ℤ a.d) first second last round.some fk ge he)
      (holds_as region sum (mean s t a b)
      (one_axis u v w p.x q.x r.x p.d q.d r.d a.x a.d b.x b.d origin_x) (one_axis u v w p.y q.y r.y p.d q.d r.d a.y a.d
      b.y b.d origin_y)
      (weights u v w p.d q.d r.d a.d b.d) held)
