-- The angles of vectors in the upper half plane, compared by their cross products.
use Rattle.std.proofs.Common.{◌≡◌, ◌⊎◌, inl, inr, [], ◌∷◌, refl, subst, arith, ℤ, pos}
use Rattle.std.proofs.Common.{◌+ℤ◌, ◌-ℤ◌, ◌*ℤ◌, ◌<ℤ◌}
use lib.Signed.{◌≤ℤ◌}
use Rattle.std.proofs.lemmas.Int.{ints}
use Rattle.scad_base.proofs.Products.{positive_product}
use Rattle.scad_geom.proofs.Rising.{by_order, order}
use Rattle.scad_geom.proofs.Signs.{at_least_mul, at_most_mul, pos_left}
use Rattle.scad_geom.proofs.Ring.{ring, num, ◌⊕◌, ◌⊖◌, ◌⊗◌, v0, v1, v2, v3, v4, v5}

unfoldable pub cross : ℤ → ℤ → ℤ → ℤ → ℤ
cross ux uy wx wy = ux *ℤ wy -ℤ uy *ℤ wx

-- the angle of w is greater than that of u: by less than a half turn, or by just that along the axis
unfoldable pub Before : ℤ → ℤ → ℤ → ℤ → Type 0
Before ux uy wx wy = (pos 0 <ℤ cross ux uy wx wy) ⊎ ((uy ≡ pos 0) × (wy ≡ pos 0) × (pos 0 <ℤ ux) × (wx <ℤ pos 0))

between : (ux uy vx vy wx wy : ℤ)
    → (ux *ℤ wy -ℤ uy *ℤ wx) *ℤ vy ≡ wy *ℤ (ux *ℤ vy -ℤ uy *ℤ vx) +ℤ uy *ℤ (vx *ℤ wy -ℤ vy *ℤ wx)
between ux uy vx vy wx wy = ring (ux ∷ uy ∷ vx ∷ vy ∷ wx ∷ wy ∷ []) ((v0 ⊗ v5 ⊖ v1 ⊗ v4) ⊗ v3)
    (v5 ⊗ (v0 ⊗ v3 ⊖ v1 ⊗ v2) ⊕ v1 ⊗ (v2 ⊗ v5 ⊖ v3 ⊗ v4)) refl

flat_start : (ux vx vy : ℤ) → ux *ℤ vy -ℤ pos 0 *ℤ vx ≡ ux *ℤ vy
flat_start ux vx vy = ring (ux ∷ vx ∷ vy ∷ []) (v0 ⊗ v2 ⊖ num (pos 0) ⊗ v1) (v0 ⊗ v2) refl

flat_end : (vx vy wx : ℤ) → vx *ℤ pos 0 -ℤ vy *ℤ wx ≡ (pos 0 -ℤ wx) *ℤ vy
flat_end vx vy wx = ring (vx ∷ vy ∷ wx ∷ []) (v0 ⊗ num (pos 0) ⊖ v1 ⊗ v2) ((num (pos 0) ⊖ v2) ⊗ v1) refl

-- a factor of a product that isn't above 0 is 0, where the other one is above 0
no_factor : (a b : ℤ) → pos 0 ≤ℤ a → pos 0 <ℤ b → (a *ℤ b) ≤ℤ pos 0 → a ≡ pos 0
no_factor a b h k m = by_order (order a (pos 0)) (λ o. omega (arith, ints, h, o))
    (λ o. let p = positive_product a b o k in absurd (omega (arith, ints, p, m)))

before_above : (ux uy vx vy wx wy : ℤ) → pos 0 ≤ℤ uy → pos 0 <ℤ vy → pos 0 ≤ℤ wy → pos 0 <ℤ cross ux uy vx vy
    → pos 0 <ℤ cross vx vy wx wy → Before ux uy wx wy
unfolding cross Before
before_above ux uy vx vy wx wy hu hv hw c d =
    let i = between ux uy vx vy wx wy in
    let m = at_least_mul wy (ux *ℤ vy -ℤ uy *ℤ vx) hw (omega (arith, ints, c)) in
    let n = at_least_mul uy (vx *ℤ wy -ℤ vy *ℤ wx) hu (omega (arith, ints, d)) in
    by_order (order (wy *ℤ (ux *ℤ vy -ℤ uy *ℤ vx) +ℤ uy *ℤ (vx *ℤ wy -ℤ vy *ℤ wx)) (pos 0))
    (λ o.
    let e : wy ≡ pos 0 = no_factor wy (ux *ℤ vy -ℤ uy *ℤ vx) hw c (omega (arith, ints, o, n)) in
    let f : uy ≡ pos 0 = no_factor uy (vx *ℤ wy -ℤ vy *ℤ wx) hu d (omega (arith, ints, o, m)) in
    let c' : pos 0 <ℤ (ux *ℤ vy -ℤ pos 0 *ℤ vx) = subst (λ (y : ℤ). pos 0 <ℤ (ux *ℤ vy -ℤ y *ℤ vx)) f c in
    let d' : pos 0 <ℤ (vx *ℤ pos 0 -ℤ vy *ℤ wx) = subst (λ (y : ℤ). pos 0 <ℤ (vx *ℤ y -ℤ vy *ℤ wx)) e d in
    let g = flat_start ux vx vy in
    let h = flat_end vx vy wx in
    let p = pos_left ux vy hv (omega (arith, ints, c', g)) in
    let q = pos_left (pos 0 -ℤ wx) vy hv (omega (arith, ints, d', h)) in
    inr (f, e, p, omega (arith, ints, q)))
    (λ o. inl (pos_left (ux *ℤ wy -ℤ uy *ℤ wx) vy hv (omega (arith, ints, o, i))))

-- from a vector on the axis
axis_end : (ux uy vx : ℤ) → ux *ℤ pos 0 -ℤ uy *ℤ vx ≡ uy *ℤ (pos 0 -ℤ vx)
axis_end ux uy vx = ring (ux ∷ uy ∷ vx ∷ []) (v0 ⊗ num (pos 0) ⊖ v1 ⊗ v2) (v1 ⊗ (num (pos 0) ⊖ v2)) refl

pub chain : (ux uy vx vy wx wy : ℤ) → pos 0 ≤ℤ uy → pos 0 ≤ℤ vy → pos 0 ≤ℤ wy → pos 0 <ℤ cross ux uy vx vy
    → Before vx vy wx wy → Before ux uy wx wy
unfolding cross Before
chain ux uy vx vy wx wy hu hv hw c b = by_order (order vy (pos 0))
    (λ o.
    let z : vy ≡ pos 0 = omega (arith, ints, hv, o) in
    let c' : pos 0 <ℤ (ux *ℤ pos 0 -ℤ uy *ℤ vx) = subst (λ (y : ℤ). pos 0 <ℤ (ux *ℤ y -ℤ uy *ℤ vx)) z c in
    let a = axis_end ux uy vx in
    let left : vx <ℤ pos 0 = by_order (order (pos 0) vx)
    (λ k. let m = at_least_mul uy vx hu k in let n = axis_back uy vx in absurd (omega (arith, ints, c', a, m, n)))
    (λ k. k) in
    absurd (by_order b
    (λ d.
    let d' : pos 0 <ℤ (vx *ℤ wy -ℤ pos 0 *ℤ wx) = subst (λ (y : ℤ). pos 0 <ℤ (vx *ℤ wy -ℤ y *ℤ wx)) z d in
    let g = flat_start vx wx wy in
    let m = at_most_mul vx wy (omega (arith, ints, left)) hw in
    omega (arith, ints, d', g, m))
    (λ d. let p = d.2 in omega (arith, ints, p, left))))
    (λ o. by_order b
    (λ d. before_above ux uy vx vy wx wy hu o hw c d)
    (λ d. absurd (let e = d.0 in omega (arith, ints, o, e))))
  where
    axis_back : (y x : ℤ) → y *ℤ (pos 0 -ℤ x) ≡ pos 0 -ℤ y *ℤ x
    axis_back y x = ring (y ∷ x ∷ []) (v0 ⊗ (num (pos 0) ⊖ v1)) (num (pos 0) ⊖ v0 ⊗ v1) refl

pub itself : (x y : ℤ) → Before x y x y → ⊥
unfolding cross Before
itself x y (inl h) = let e = no_cross x y in omega (arith, ints, h, e)
  where
    no_cross : (x y : ℤ) → x *ℤ y -ℤ y *ℤ x ≡ pos 0
    no_cross x y = ring (x ∷ y ∷ []) (v0 ⊗ v1 ⊖ v1 ⊗ v0) (num (pos 0)) refl
itself x y (inr h) = let a = h.2 in let b = h.3 in omega (arith, ints, a, b)
