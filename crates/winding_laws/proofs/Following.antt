-- The points of a segment follow its ends.
use Rattle.std.proofs.Common.{◌≡◌, List, [], ◌∷◌, refl, sym, ap, ◌∙◌}
use lib.IntN.{ℤ, pos, ◌+ℤ◌, ◌-ℤ◌, ◌*ℤ◌}
use lib.Signed.{◌<ℤ◌}
use Rattle.scad_base.proofs.Products.{positive_product}
use Rattle.scad_geom.specs.Point.{Point}
use Rattle.scad_geom.specs.Near.{mean}
use Rattle.scad_geom.proofs.Ring.{ring, ◌⊕◌, ◌⊖◌, ◌⊗◌, v0, v1, v2, v3, v4, v5, v6, v7, v8, v9}
use Rattle.scad_geom.proofs.Signs.{at_least_mul}
use Rattle.winding_laws.specs.Region.{HalfPlane}
use Rattle.winding_laws.specs.Nearness.{seen_from, IsNear, IsPoint}
use Rattle.winding_laws.specs.Points.{IsOn}
use Rattle.winding_laws.specs.Approach.{HasNear, PointsFollow}
use Rattle.winding_laws.proofs.Regions.{scaled, added, holds_scaled, holds_added, holds_as}
use Rattle.winding_laws.proofs.Parts.{mean_on}
use Rattle.winding_laws.proofs.Weights.{some_weight}
use Rattle.scad_base.proofs.Integers.{at_most_of_less}

-- ---- points follow the ends
module _ (region : List HalfPlane) (a b c d p : Point) (da : IsPoint a) (db : IsPoint b) (dc : IsPoint c)
    (dd : IsPoint d) (dp : IsPoint p)
    (na : IsNear region c a) (nb : IsNear region d b) (o : IsOn c d p) where
  abbrev first : ℤ
  first = o.s *ℤ (c.d *ℤ b.d)

  abbrev second : ℤ
  second = o.t *ℤ (d.d *ℤ a.d)

  cb : pos 0 <ℤ (c.d *ℤ b.d)
  cb = positive_product c.d b.d dc db

  de : pos 0 <ℤ (d.d *ℤ a.d)
  de = positive_product d.d a.d dd da

  some : pos 0 <ℤ (first +ℤ second)
  some = some_weight o.s o.t (c.d *ℤ b.d) (d.d *ℤ a.d) o.first o.second o.some cb de

  -- what the two moves add up to
  abbrev drift : Point
  drift = added (scaled (seen_from c a) (o.s *ℤ b.d)) (scaled (seen_from d b) (o.t *ℤ a.d))

  one_axis : (k u v x e y f z g w h p q : ℤ) → k *ℤ p ≡ u *ℤ z +ℤ v *ℤ w
      → k *ℤ q ≡ u *ℤ g +ℤ v *ℤ h
      → ((x *ℤ g -ℤ z *ℤ e) *ℤ (u *ℤ f) +ℤ (y *ℤ h -ℤ w *ℤ f) *ℤ (v *ℤ e)) *ℤ q
      ≡ ((u *ℤ (g *ℤ f)) *ℤ x +ℤ (v *ℤ (h *ℤ e)) *ℤ y) *ℤ q -ℤ p *ℤ
      ((u *ℤ (g *ℤ f)) *ℤ e +ℤ (v *ℤ (h *ℤ e)) *ℤ f)
  one_axis k u v x e y f z g w h p q hp hq =
      split x e y f z g w h u v q
      ∙ ap (λ (s : ℤ). ((u *ℤ (g *ℤ f)) *ℤ x +ℤ (v *ℤ (h *ℤ e)) *ℤ y) *ℤ q -ℤ (e *ℤ f) *ℤ
      (s *ℤ q)) (sym hp)
      ∙ swap e f k p q (((u *ℤ (g *ℤ f)) *ℤ x +ℤ (v *ℤ (h *ℤ e)) *ℤ y) *ℤ q)
      ∙ ap (λ (s : ℤ). ((u *ℤ (g *ℤ f)) *ℤ x +ℤ (v *ℤ (h *ℤ e)) *ℤ y) *ℤ q -ℤ (e *ℤ f) *ℤ
      (s *ℤ p)) hq
      ∙ join e f g h u v p (((u *ℤ (g *ℤ f)) *ℤ x +ℤ (v *ℤ (h *ℤ e)) *ℤ y) *ℤ q)
    where
      split : (x e y f z g w h u v q : ℤ) → ((x *ℤ g -ℤ z *ℤ e) *ℤ (u *ℤ f) +ℤ (y *ℤ h -ℤ w *ℤ f)
          *ℤ (v *ℤ e)) *ℤ q
          ≡ ((u *ℤ (g *ℤ f)) *ℤ x +ℤ (v *ℤ (h *ℤ e)) *ℤ y) *ℤ q -ℤ (e *ℤ f) *ℤ
          ((u *ℤ z +ℤ v *ℤ w) *ℤ q)
      split x e y f z g w h u v q =
          ap (λ (s : ℤ). s *ℤ q)
          (ring (x ∷ e ∷ y ∷ f ∷ z ∷ g ∷ w ∷ h ∷ u ∷ v ∷ [])
          ((v0 ⊗ v5 ⊖ v4 ⊗ v1) ⊗ (v8 ⊗ v3) ⊕ (v2 ⊗ v7 ⊖ v6 ⊗ v3) ⊗ (v9 ⊗ v1))
          (((v8 ⊗ (v5 ⊗ v3)) ⊗ v0 ⊕ (v9 ⊗ (v7 ⊗ v1)) ⊗ v2) ⊖ (v1 ⊗ v3) ⊗ (v8 ⊗ v4 ⊕ v9 ⊗ v6))
          refl)
          ∙ ring (((u *ℤ (g *ℤ f)) *ℤ x +ℤ (v *ℤ (h *ℤ e)) *ℤ y) ∷ (e *ℤ f)
          ∷ (u *ℤ z +ℤ v *ℤ w) ∷ q ∷ [])
          ((v0 ⊖ v1 ⊗ v2) ⊗ v3) (v0 ⊗ v3 ⊖ v1 ⊗ (v2 ⊗ v3)) refl

      swap : (e f k p q r : ℤ) → r -ℤ (e *ℤ f) *ℤ ((k *ℤ p) *ℤ q)
          ≡ r -ℤ (e *ℤ f) *ℤ ((k *ℤ q) *ℤ p)
      swap e f k p q r = ring (e ∷ f ∷ k ∷ p ∷ q ∷ r ∷ []) (v5 ⊖ (v0 ⊗ v1) ⊗ ((v2 ⊗ v3) ⊗ v4))
          (v5 ⊖ (v0 ⊗ v1) ⊗ ((v2 ⊗ v4) ⊗ v3)) refl

      join : (e f g h u v p r : ℤ) → r -ℤ (e *ℤ f) *ℤ ((u *ℤ g +ℤ v *ℤ h) *ℤ p)
          ≡ r -ℤ p *ℤ ((u *ℤ (g *ℤ f)) *ℤ e +ℤ (v *ℤ (h *ℤ e)) *ℤ f)
      join e f g h u v p r = ring (e ∷ f ∷ g ∷ h ∷ u ∷ v ∷ p ∷ r ∷ [])
          (v7 ⊖ (v0 ⊗ v1) ⊗ ((v4 ⊗ v2 ⊕ v5 ⊗ v3) ⊗ v6))
          (v7 ⊖ v6 ⊗ ((v4 ⊗ (v2 ⊗ v1)) ⊗ v0 ⊕ (v5 ⊗ (v3 ⊗ v0)) ⊗ v1)) refl

  weights : (u v e f g h q : ℤ) → ((e *ℤ g) *ℤ (u *ℤ f) +ℤ (f *ℤ h) *ℤ (v *ℤ e)) *ℤ q
      ≡ ((u *ℤ (g *ℤ f)) *ℤ e +ℤ (v *ℤ (h *ℤ e)) *ℤ f) *ℤ q
  weights u v e f g h q = ring (u ∷ v ∷ e ∷ f ∷ g ∷ h ∷ q ∷ [])
      (((v2 ⊗ v4) ⊗ (v0 ⊗ v3) ⊕ (v3 ⊗ v5) ⊗ (v1 ⊗ v2)) ⊗ v6)
      (((v0 ⊗ (v4 ⊗ v3)) ⊗ v2 ⊕ (v1 ⊗ (v5 ⊗ v2)) ⊗ v3) ⊗ v6) refl

  follows : HasNear region a b p
  follows =
      let hs = at_least_mul o.s (c.d *ℤ b.d) o.first (at_most_of_less (pos 0) (c.d *ℤ b.d) cb) in
      let ht = at_least_mul o.t (d.d *ℤ a.d) o.second (at_most_of_less (pos 0) (d.d *ℤ a.d) de) in
      record {
        point = mean first second a b;
        positive = some_weight first second a.d b.d hs ht some da db;
        on = mean_on first second hs ht some a b;
        near = holds_as region (scaled drift p.d) (seen_from p (mean first second a b))
            (one_axis o.k o.s o.t a.x a.d b.x b.d c.x c.d d.x d.d p.x p.d o.x o.d) (one_axis o.k o.s o.t a.y a.d b.y b.d
            c.y c.d d.y d.d p.y p.d o.y o.d) (weights o.s o.t a.d b.d c.d d.d p.d)
            (holds_scaled region drift p.d (at_most_of_less (pos 0) p.d dp)
            (holds_added region (scaled (seen_from c a) (o.s *ℤ b.d)) (scaled (seen_from d b) (o.t *ℤ a.d))
            (holds_scaled region (seen_from c a) (o.s *ℤ b.d)
            (at_least_mul o.s b.d o.first (at_most_of_less (pos 0) b.d db)) na)
            (holds_scaled region (seen_from d b) (o.t *ℤ a.d)
            (at_least_mul o.t a.d o.second (at_most_of_less (pos 0) a.d da)) nb)));
      }

pub points_follow : PointsFollow
points_follow region a b c d p da db dc dd dp na nb o = follows region a b c d p da db dc dd dp na nb o
