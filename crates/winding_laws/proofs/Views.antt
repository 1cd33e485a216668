-- Turns of segments as the point sees them round which they turn: by cross products of the differences from the point.
use Rattle.std.proofs.Common.{◌≡◌, Bool, true, false, [], ◌∷◌, refl, sym, ap, ap₂, ◌∙◌, arith}
use lib.IntN.{ℤ, pos, ◌-ℤ◌, ◌*ℤ◌}
use lib.Signed.{◌<ℤ◌}
use Rattle.std.specs.Prelude.{int_lt, int_le, if◌then◌else◌}
use Rattle.std.proofs.lemmas.Int.{ints, by_lt_z}
use Rattle.scad_geom.specs.Point.{Point}
use Rattle.scad_geom.specs.Winding.{counted, is_over, passage_by, side_by, is_beyond, turn}
use Rattle.scad_geom.proofs.Ring.{ring, num, ◌⊖◌, ◌⊗◌, v0, v1, v2, v3, v4, v5, v6, v7, v8}
use Rattle.scad_geom.proofs.Turns.{beyond_mul}
use Rattle.winding_laws.specs.Nearness.{seen_from}
use Rattle.scad_geom.proofs.Integers.{mul_assoc}

-- twice the signed area of the triangle from the origin to a and b, over the product of the divisors
unfoldable pub cross : Point → Point → ℤ
cross a b = a.x *ℤ b.y -ℤ a.y *ℤ b.x

abbrev pub swing_by : Bool → Bool → Bool → ℤ → ℤ
swing_by right s t z = if is_beyond right ((counted t -ℤ counted s) *ℤ z) then counted t -ℤ counted s else pos 0

-- the turn of the segment from a to b hard by the origin
unfoldable pub swing : Bool → Bool → Point → Point → ℤ
swing above right a b = swing_by right (is_beyond above a.y) (is_beyond above b.y) (cross a b)

-- ---- the turn is the swing of what the point sees
over_gap : (above : Bool) (x y : ℤ) → (if above then int_lt x y else int_le x y) ≡ is_beyond above (y -ℤ x)
unfolding is_beyond
over_gap true x y = by_lt_z x y
    (λ h.
    let a : int_lt x y ≡ true = sym (omega (arith, ints)) in
    let b : int_lt (pos 0) (y -ℤ x) ≡ true = sym (omega (arith, ints)) in
    a ∙ sym b)
    (λ h.
    let a : int_lt x y ≡ false = sym (omega (arith, ints)) in
    let b : int_lt (pos 0) (y -ℤ x) ≡ false = sym (omega (arith, ints)) in
    a ∙ sym b)
over_gap false x y = by_lt_z y x
    (λ h.
    let a : int_le x y ≡ false = sym (omega (arith, ints)) in
    let b : int_le (pos 0) (y -ℤ x) ≡ false = sym (omega (arith, ints)) in
    a ∙ sym b)
    (λ h.
    let a : int_le x y ≡ true = sym (omega (arith, ints)) in
    let b : int_le (pos 0) (y -ℤ x) ≡ true = sym (omega (arith, ints)) in
    a ∙ sym b)

is_over_seen : (above : Bool) (q b : Point) → is_over above q b ≡ is_beyond above (seen_from q b).y
unfolding is_over
is_over_seen above q b = over_gap above (q.y *ℤ b.d) (b.y *ℤ q.d)

side_seen : (q a b : Point) → side_by q a b *ℤ q.d ≡ cross (seen_from q a) (seen_from q b) *ℤ a.d
unfolding side_by cross
side_seen q a b =
    ring (a.x ∷ a.y ∷ a.d ∷ b.x ∷ b.y ∷ b.d ∷ q.x ∷ q.y ∷ q.d ∷ [])
    (((v3 ⊗ v2 ⊖ v0 ⊗ v5) ⊗ (v7 ⊗ v2 ⊖ v1 ⊗ v8) ⊖ (v4 ⊗ v2 ⊖ v1 ⊗ v5)
    ⊗ (v6 ⊗ v2 ⊖ v0 ⊗ v8)) ⊗ v8)
    (((v0 ⊗ v8 ⊖ v6 ⊗ v2) ⊗ (v4 ⊗ v8 ⊖ v7 ⊗ v5) ⊖ (v1 ⊗ v8 ⊖ v7 ⊗ v2)
    ⊗ (v3 ⊗ v8 ⊖ v6 ⊗ v5)) ⊗ v2) refl

-- tests of a product, where both its second factors have one sign
pub same_sign : (right : Bool) (p x y k l : ℤ) → pos 0 <ℤ k → pos 0 <ℤ l → x *ℤ k ≡ y *ℤ l
    → is_beyond right (p *ℤ x) ≡ is_beyond right (p *ℤ y)
same_sign right p x y k l kp lp e =
    sym (beyond_mul right k (p *ℤ x) kp)
    ∙ ap (is_beyond right) (mul_assoc p x k ∙ ap (λ (z : ℤ). p *ℤ z) e ∙ sym (mul_assoc p y l))
    ∙ beyond_mul right l (p *ℤ y) lp

pub turn_seen : (above right : Bool) (q a b : Point) → pos 0 <ℤ q.d → pos 0 <ℤ a.d → turn above right q a b
    ≡ swing above right (seen_from q a) (seen_from q b)
unfolding turn passage_by swing
turn_seen above right q a b dq da =
    let s = is_over_seen above q a in
    let t = is_over_seen above q b in
    ap₂ (λ (s t : Bool). swing_by right s t (side_by q a b)) s t
    ∙ ap (λ (u : Bool). if u then counted (is_beyond above (seen_from q b).y) -ℤ counted
    (is_beyond above (seen_from q a).y) else pos 0)
    (same_sign right (counted (is_beyond above (seen_from q b).y) -ℤ counted (is_beyond above (seen_from q a).y))
    (side_by q a b) (cross (seen_from q a) (seen_from q b)) q.d a.d dq da (side_seen q a b))

-- ---- backwards
pub cross_turned : (a b : Point) → cross b a ≡ pos 0 -ℤ cross a b
unfolding cross
cross_turned a b = ring (a.x ∷ a.y ∷ b.x ∷ b.y ∷ []) (v2 ⊗ v1 ⊖ v3 ⊗ v0)
    (num (pos 0) ⊖ (v0 ⊗ v3 ⊖ v1 ⊗ v2)) refl

both_turned : (c d z : ℤ) → (d -ℤ c) *ℤ (pos 0 -ℤ z) ≡ (c -ℤ d) *ℤ z
both_turned c d z = ring (c ∷ d ∷ z ∷ []) ((v1 ⊖ v0) ⊗ (num (pos 0) ⊖ v2)) ((v0 ⊖ v1) ⊗ v2) refl

choice_turned : (b : Bool) (c d : ℤ) → (if b then d -ℤ c else pos 0)
    ≡ pos 0 -ℤ (if b then c -ℤ d else pos 0)
choice_turned true c d = omega (arith, ints)
choice_turned false c d = refl

swing_by-turned : (right s t : Bool) (z : ℤ) → swing_by right t s (pos 0 -ℤ z) ≡ pos 0 -ℤ swing_by right s t z
swing_by-turned right s t z =
    ap (λ (y : ℤ). if is_beyond right y then counted s -ℤ counted t else pos 0)
    (both_turned (counted t) (counted s) z)
    ∙ choice_turned (is_beyond right ((counted t -ℤ counted s) *ℤ z)) (counted t) (counted s)

pub swing_turned : (above right : Bool) (a b : Point) → swing above right b a ≡ pos 0 -ℤ swing above right a b
unfolding swing
swing_turned above right a b =
    ap (swing_by right (is_beyond above b.y) (is_beyond above a.y)) (cross_turned a b)
    ∙ swing_by-turned right (is_beyond above a.y) (is_beyond above b.y) (cross a b)

-- ---- along a ray
-- a lies on the ray from the origin through b
pub record IsAlong (a b : Point) : Type 0 where
  pub k : ℤ
  pub l : ℤ
  pub k_positive : pos 0 <ℤ k
  pub l_positive : pos 0 <ℤ l
  pub x : a.x *ℤ k ≡ b.x *ℤ l
  pub y : a.y *ℤ k ≡ b.y *ℤ l

beyond_along : (above : Bool) (a b : Point) → IsAlong a b → is_beyond above a.y ≡ is_beyond above b.y
beyond_along above a b h = sym (beyond_mul above h.k a.y h.k_positive) ∙ ap (is_beyond above) h.y
    ∙ beyond_mul above h.l
    b.y h.l_positive

cross_along : (a b c : Point) (h : IsAlong a b) → cross a c *ℤ h.k ≡ cross b c *ℤ h.l
unfolding cross
cross_along a b c h =
    ring (a.x ∷ a.y ∷ c.x ∷ c.y ∷ h.k ∷ []) ((v0 ⊗ v3 ⊖ v1 ⊗ v2) ⊗ v4)
    ((v0 ⊗ v4) ⊗ v3 ⊖ (v1 ⊗ v4) ⊗ v2) refl
    ∙ ap₂ (λ (y z : ℤ). y *ℤ c.y -ℤ z *ℤ c.x) h.x h.y
    ∙ ring (b.x ∷ b.y ∷ c.x ∷ c.y ∷ h.l ∷ []) ((v0 ⊗ v4) ⊗ v3 ⊖ (v1 ⊗ v4) ⊗ v2)
    ((v0 ⊗ v3 ⊖ v1 ⊗ v2) ⊗ v4) refl

pub swing_along : (above right : Bool) (a b c : Point) → IsAlong a b
    → swing above right a c ≡ swing above right b c
unfolding swing
swing_along above right a b c h =
    ap (λ (s : Bool). swing_by right s (is_beyond above c.y) (cross a c)) (beyond_along above a b h)
    ∙ ap (λ (u : Bool). if u then counted (is_beyond above c.y) -ℤ counted (is_beyond above b.y) else pos 0)
    (same_sign right (counted (is_beyond above c.y) -ℤ counted (is_beyond above b.y)) (cross a c) (cross b c) h.k h.l
    h.k_positive h.l_positive (cross_along a b c h))

pub swing_to_along : (above right : Bool) (c a b : Point) → IsAlong a b
    → swing above right c a ≡ swing above right c b
swing_to_along above right c a b h = swing_turned above right a c ∙ ap (λ (z : ℤ). pos 0 -ℤ z)
    (swing_along above right a b c h) ∙ sym (swing_turned above right b c)
