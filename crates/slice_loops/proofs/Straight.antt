-- Points straight ahead: on one line, in one direction.
use Rattle.std.proofs.Common.{◌≡◌, Bool, true, ◌&&◌, [], ◌∷◌, refl, sym, ap, ap₂, ◌∙◌, subst, arith}
use lib.IntN.{ℤ, pos, ◌+ℤ◌, ◌-ℤ◌, ◌*ℤ◌}
use lib.Signed.{◌<ℤ◌}
use Rattle.std.specs.Prelude.{int_lt}
use Rattle.std.specs.Ordering.{int_eq}
use Rattle.std.specs.Cmp.{signed_Decides}
use Rattle.std.proofs.lemmas.Int.{ints}
use Rattle.scad_base.proofs.Products.{positive_product, zero_factor}
use Rattle.scad_base.proofs.Tests.{int_lt-true}
use Rattle.std.proofs.lemmas.Bool.{and_parts}
use Rattle.scad_geom.specs.declared.point.Pt.{Pt}
use Rattle.scad_geom.proofs.Ring.{ring, num, ◌⊕◌, ◌⊖◌, ◌⊗◌, v0, v1, v2, v3, v4, v5, v6}
use Rattle.scad_geom.proofs.Signs.{at_least_mul, pos_left, sum_at_least, square_at_least, add_times_zero}
use Rattle.slice_loops.specs.Corners.{bend, advance, is_between}
use Rattle.scad_base.proofs.Integers.{at_most_of_less, sum_above}
use Rattle.std.proofs.Math.IntN.{zero-*ℤ}
use Rattle.scad_geom.proofs.Signs.{sub_times_zero}

-- p lies from x in the direction from a to p
pub record IsAhead (x a p : Pt) : Type 0 where
  pub far : ℤ
  pub near : ℤ
  pub far_positive : pos 0 <ℤ far
  pub near_positive : pos 0 <ℤ near
  pub across : far *ℤ (p.x -ℤ x.x) ≡ near *ℤ (p.x -ℤ a.x)
  pub along : far *ℤ (p.y -ℤ x.y) ≡ near *ℤ (p.y -ℤ a.y)

pub ahead_itself : (a p : Pt) → IsAhead a a p
ahead_itself a p = record {
  far = pos 1;
  near = pos 1;
  far_positive = omega (arith, ints);
  near_positive
      = omega (arith, ints);
  across = refl;
  along = refl;
}

-- ---- what the test says
pub straight : (a p b : Pt) → is_between a p b ≡ true → (bend a p b ≡ pos 0) × (pos 0 <ℤ advance a p b)
straight a p b h =
    let both = and_parts (int_eq (bend a p b) (pos 0)) (int_lt (pos 0) (advance a p b)) h in
    ((signed_Decides (bend a p b) (pos 0)).0 both.0, int_lt-true (pos 0) (advance a p b) both.1)

less_true : (z : ℤ) → pos 0 <ℤ z → int_lt (pos 0) z ≡ true
less_true z h = sym (omega (arith, ints))

between_by : (a p b : Pt) → bend a p b ≡ pos 0 → pos 0 <ℤ advance a p b → is_between a p b ≡ true
between_by a p b h k = ap₂ (λ (s t : Bool). s && t) ((signed_Decides (bend a p b) (pos 0)).1 h)
    (less_true (advance a p b) k)

-- ---- identities
pub scaled_bend : (k l wx wy ux uy vx vy : ℤ) → k *ℤ wx ≡ l *ℤ ux → k *ℤ wy ≡ l *ℤ uy
    → (wx *ℤ vy -ℤ wy *ℤ vx) *ℤ k ≡ (ux *ℤ vy -ℤ uy *ℤ vx) *ℤ l
scaled_bend k l wx wy ux uy vx vy h e =
    ring (k ∷ wx ∷ wy ∷ vx ∷ vy ∷ []) ((v1 ⊗ v4 ⊖ v2 ⊗ v3) ⊗ v0)
    ((v0 ⊗ v1) ⊗ v4 ⊖ (v0 ⊗ v2) ⊗ v3) refl
    ∙ ap₂ (λ (s t : ℤ). s *ℤ vy -ℤ t *ℤ vx) h e
    ∙ ring (l ∷ ux ∷ uy ∷ vx ∷ vy ∷ []) ((v0 ⊗ v1) ⊗ v4 ⊖ (v0 ⊗ v2) ⊗ v3)
    ((v1 ⊗ v4 ⊖ v2 ⊗ v3) ⊗ v0) refl

scaled_advance : (k l wx wy ux uy vx vy : ℤ) → k *ℤ wx ≡ l *ℤ ux → k *ℤ wy ≡ l *ℤ uy
    → (wx *ℤ vx +ℤ wy *ℤ vy) *ℤ k ≡ (ux *ℤ vx +ℤ uy *ℤ vy) *ℤ l
scaled_advance k l wx wy ux uy vx vy h e =
    ring (k ∷ wx ∷ wy ∷ vx ∷ vy ∷ []) ((v1 ⊗ v3 ⊕ v2 ⊗ v4) ⊗ v0)
    ((v0 ⊗ v1) ⊗ v3 ⊕ (v0 ⊗ v2) ⊗ v4) refl
    ∙ ap₂ (λ (s t : ℤ). s *ℤ vx +ℤ t *ℤ vy) h e
    ∙ ring (l ∷ ux ∷ uy ∷ vx ∷ vy ∷ []) ((v0 ⊗ v1) ⊗ v3 ⊕ (v0 ⊗ v2) ⊗ v4)
    ((v1 ⊗ v3 ⊕ v2 ⊗ v4) ⊗ v0) refl

further_across : (k l w ux uy vx vy : ℤ) → k *ℤ w ≡ l *ℤ ux → ux *ℤ vy -ℤ uy *ℤ vx ≡ pos 0
    → ((ux *ℤ vx +ℤ uy *ℤ vy) *ℤ k) *ℤ (vx +ℤ w)
    ≡ (k *ℤ (ux *ℤ vx +ℤ uy *ℤ vy) +ℤ l *ℤ (ux *ℤ ux +ℤ uy *ℤ uy)) *ℤ vx
further_across k l w ux uy vx vy h e =
    ring (k ∷ l ∷ w ∷ ux ∷ uy ∷ vx ∷ vy ∷ []) (((v3 ⊗ v5 ⊕ v4 ⊗ v6) ⊗ v0) ⊗ (v5 ⊕ v2))
    ((v3 ⊗ v5 ⊕ v4 ⊗ v6) ⊗ (v0 ⊗ v5) ⊕ (v3 ⊗ v5 ⊕ v4 ⊗ v6) ⊗ (v0 ⊗ v2)) refl
    ∙ ap (λ (z : ℤ). (ux *ℤ vx +ℤ uy *ℤ vy) *ℤ (k *ℤ vx) +ℤ (ux *ℤ vx +ℤ uy *ℤ vy) *ℤ z) h
    ∙ ring (k ∷ l ∷ w ∷ ux ∷ uy ∷ vx ∷ vy ∷ [])
    ((v3 ⊗ v5 ⊕ v4 ⊗ v6) ⊗ (v0 ⊗ v5) ⊕ (v3 ⊗ v5 ⊕ v4 ⊗ v6) ⊗ (v1 ⊗ v3))
    ((v0 ⊗ (v3 ⊗ v5 ⊕ v4 ⊗ v6) ⊕ v1 ⊗ (v3 ⊗ v3 ⊕ v4 ⊗ v4)) ⊗ v5 ⊕ (v1 ⊗ v4)
    ⊗ (v3 ⊗ v6 ⊖ v4 ⊗ v5)) refl
    ∙ ap (λ (z : ℤ). (k *ℤ (ux *ℤ vx +ℤ uy *ℤ vy) +ℤ l *ℤ (ux *ℤ ux +ℤ uy *ℤ uy)) *ℤ vx +ℤ
    (l *ℤ uy) *ℤ z) e
    ∙ add_times_zero ((k *ℤ (ux *ℤ vx +ℤ uy *ℤ vy) +ℤ l *ℤ (ux *ℤ ux +ℤ uy *ℤ uy)) *ℤ vx)
    (l *ℤ uy)

further_along : (k l w ux uy vx vy : ℤ) → k *ℤ w ≡ l *ℤ uy → ux *ℤ vy -ℤ uy *ℤ vx ≡ pos 0
    → ((ux *ℤ vx +ℤ uy *ℤ vy) *ℤ k) *ℤ (vy +ℤ w)
    ≡ (k *ℤ (ux *ℤ vx +ℤ uy *ℤ vy) +ℤ l *ℤ (ux *ℤ ux +ℤ uy *ℤ uy)) *ℤ vy
further_along k l w ux uy vx vy h e =
    ring (k ∷ l ∷ w ∷ ux ∷ uy ∷ vx ∷ vy ∷ []) (((v3 ⊗ v5 ⊕ v4 ⊗ v6) ⊗ v0) ⊗ (v6 ⊕ v2))
    ((v3 ⊗ v5 ⊕ v4 ⊗ v6) ⊗ (v0 ⊗ v6) ⊕ (v3 ⊗ v5 ⊕ v4 ⊗ v6) ⊗ (v0 ⊗ v2)) refl
    ∙ ap (λ (z : ℤ). (ux *ℤ vx +ℤ uy *ℤ vy) *ℤ (k *ℤ vy) +ℤ (ux *ℤ vx +ℤ uy *ℤ vy) *ℤ z) h
    ∙ ring (k ∷ l ∷ w ∷ ux ∷ uy ∷ vx ∷ vy ∷ [])
    ((v3 ⊗ v5 ⊕ v4 ⊗ v6) ⊗ (v0 ⊗ v6) ⊕ (v3 ⊗ v5 ⊕ v4 ⊗ v6) ⊗ (v1 ⊗ v4))
    ((v0 ⊗ (v3 ⊗ v5 ⊕ v4 ⊗ v6) ⊕ v1 ⊗ (v3 ⊗ v3 ⊕ v4 ⊗ v4)) ⊗ v6 ⊖ (v1 ⊗ v3)
    ⊗ (v3 ⊗ v6 ⊖ v4 ⊗ v5)) refl
    ∙ ap (λ (z : ℤ). (k *ℤ (ux *ℤ vx +ℤ uy *ℤ vy) +ℤ l *ℤ (ux *ℤ ux +ℤ uy *ℤ uy)) *ℤ vy -ℤ
    (l *ℤ ux) *ℤ z) e
    ∙ sub_times_zero ((k *ℤ (ux *ℤ vx +ℤ uy *ℤ vy) +ℤ l *ℤ (ux *ℤ ux +ℤ uy *ℤ uy)) *ℤ vy)
    (l *ℤ ux)

way : (b p x : ℤ) → (b -ℤ p) +ℤ (p -ℤ x) ≡ b -ℤ x
way b p x = omega (arith, ints)

-- ---- the way on from a point that lies ahead
pub still_between : (x a p b : Pt) → IsAhead x a p → is_between a p b ≡ true → is_between x p b ≡ true
unfolding bend advance
still_between x a p b h t =
    let s = straight a p b t in
    let ux = p.x -ℤ a.x in
    let uy = p.y -ℤ a.y in
    let vx = b.x -ℤ p.x in
    let vy = b.y -ℤ p.y in
    let wx = p.x -ℤ x.x in
    let wy = p.y -ℤ x.y in
    let flat : (wx *ℤ vy -ℤ wy *ℤ vx) *ℤ h.far ≡ pos 0 = scaled_bend h.far h.near wx wy ux uy vx vy h.across h.along ∙ ap (λ (z : ℤ). z *ℤ h.near) s.0 ∙ zero-*ℤ h.near in
    let on : pos 0 <ℤ ((wx *ℤ vx +ℤ wy *ℤ vy) *ℤ h.far) = subst (λ (z : ℤ). pos 0 <ℤ z) (sym (scaled_advance h.far h.near wx wy ux uy vx vy h.across h.along)) (positive_product (ux *ℤ vx +ℤ uy *ℤ vy) h.near s.1 h.near_positive) in
    between_by x p b (zero_factor (wx *ℤ vy -ℤ wy *ℤ vx) h.far h.far_positive flat)
    (pos_left (wx *ℤ vx +ℤ wy *ℤ vy) h.far h.far_positive on)

pub ahead_on : (x a p b : Pt) → IsAhead x a p → is_between a p b ≡ true → IsAhead x p b
unfolding bend advance
ahead_on x a p b h t =
    let s = straight a p b t in
    let ux = p.x -ℤ a.x in
    let uy = p.y -ℤ a.y in
    let vx = b.x -ℤ p.x in
    let vy = b.y -ℤ p.y in
    let wx = p.x -ℤ x.x in
    let wy = p.y -ℤ x.y in
    let far : ℤ = (ux *ℤ vx +ℤ uy *ℤ vy) *ℤ h.far in
    let near : ℤ = h.far *ℤ (ux *ℤ vx +ℤ uy *ℤ vy) +ℤ h.near *ℤ (ux *ℤ ux +ℤ uy *ℤ uy) in
    record {
      far = far;
      near = near;
      far_positive = positive_product (ux *ℤ vx +ℤ uy *ℤ vy) h.far s.1 h.far_positive;
      near_positive = sum_above (h.far *ℤ (ux *ℤ vx +ℤ uy *ℤ vy)) (h.near *ℤ (ux *ℤ ux +ℤ uy *ℤ uy))
          (positive_product h.far (ux *ℤ vx +ℤ uy *ℤ vy) h.far_positive s.1)
          (at_least_mul h.near (ux *ℤ ux +ℤ uy *ℤ uy) (at_most_of_less (pos 0) h.near h.near_positive)
          (sum_at_least (ux *ℤ ux) (uy *ℤ uy) (square_at_least ux) (square_at_least uy)));
      across = ap (λ (z : ℤ). far *ℤ z) (sym (way b.x p.x x.x))
          ∙ further_across h.far h.near wx ux uy vx vy h.across s.0;
      along = ap (λ (z : ℤ). far *ℤ z) (sym (way b.y p.y x.y))
          ∙ further_along h.far h.near wy ux uy vx vy h.along s.0;
    }

-- ---- the same read backwards
bend_turned : (ax ay px py bx by : ℤ) → (px -ℤ bx) *ℤ (ay -ℤ py) -ℤ (py -ℤ by) *ℤ (ax -ℤ px)
    ≡ pos 0 -ℤ ((px -ℤ ax) *ℤ (by -ℤ py) -ℤ (py -ℤ ay) *ℤ (bx -ℤ px))
bend_turned ax ay px py bx by = ring (ax ∷ ay ∷ px ∷ py ∷ bx ∷ by ∷ [])
    ((v2 ⊖ v4) ⊗ (v1 ⊖ v3) ⊖ (v3 ⊖ v5) ⊗ (v0 ⊖ v2))
    (num (pos 0) ⊖ ((v2 ⊖ v0) ⊗ (v5 ⊖ v3) ⊖ (v3 ⊖ v1) ⊗ (v4 ⊖ v2))) refl

advance_turned : (ax ay px py bx by : ℤ) → (px -ℤ bx) *ℤ (ax -ℤ px) +ℤ (py -ℤ by) *ℤ (ay -ℤ py)
    ≡ (px -ℤ ax) *ℤ (bx -ℤ px) +ℤ (py -ℤ ay) *ℤ (by -ℤ py)
advance_turned ax ay px py bx by = ring (ax ∷ ay ∷ px ∷ py ∷ bx ∷ by ∷ [])
    ((v2 ⊖ v4) ⊗ (v0 ⊖ v2) ⊕ (v3 ⊖ v5) ⊗ (v1 ⊖ v3))
    ((v2 ⊖ v0) ⊗ (v4 ⊖ v2) ⊕ (v3 ⊖ v1) ⊗ (v5 ⊖ v3)) refl

zero_less : (z : ℤ) → z ≡ pos 0 → pos 0 -ℤ z ≡ pos 0
zero_less z h = omega (arith, ints)

pub flipped : (a b : ℤ) → pos 0 <ℤ (a -ℤ b) → (b -ℤ a) <ℤ pos 0
flipped a b h = omega (arith, ints)

pub between_turned : (a p b : Pt) → is_between a p b ≡ true → is_between b p a ≡ true
unfolding bend advance
between_turned a p b t =
    let s = straight a p b t in
    between_by b p a
    (bend_turned a.x a.y p.x p.y b.x b.y ∙ zero_less (bend a p b) s.0)
    (subst (λ (z : ℤ). pos 0 <ℤ z) (sym (advance_turned a.x a.y p.x p.y b.x b.y)) s.1)
