-- A point between two places of a line, as k (n, d) = s (a, 1) + t (b, 1) says it along the line, and the place at it or
-- less than one before it.
use Rattle.std.proofs.Common.{◌≡◌, [], ◌∷◌, refl, ap₂, ◌∙◌, arith, ℤ, pos, ◌+ℤ◌, ◌-ℤ◌, ◌*ℤ◌, ◌<ℤ◌}
use lib.Signed.{◌≤ℤ◌}
use Rattle.std.specs.Int.{int_div_euclid}
use Rattle.std.proofs.lemmas.Int.{ints}
use Rattle.scad_base.proofs.Products.{zero_factor}
use Rattle.scad_geom.proofs.Ring.{ring, num, ◌⊕◌, ◌⊖◌, ◌⊗◌, v0, v1, v2, v3}
use Rattle.scad_geom.proofs.Rising.{by_order, order}
use Rattle.scad_geom.proofs.Signs.{at_least_mul, at_least_left, one_more_times}
use Rattle.plan_infill.specs.Quotient.{IsFloor}
use Rattle.plan_infill.proofs.Quotients.{floor_is, after_floor, at_most_times}

after_first : (k s t n d a b : ℤ) → k *ℤ n ≡ s *ℤ a +ℤ t *ℤ b → k *ℤ d ≡ s *ℤ pos 1 +ℤ t *ℤ pos 1
    → (n -ℤ a *ℤ d) *ℤ k ≡ t *ℤ (b -ℤ a)
after_first k s t n d a b hn hd =
    ring (k ∷ n ∷ d ∷ a ∷ []) ((v1 ⊖ v3 ⊗ v2) ⊗ v0) (v0 ⊗ v1 ⊖ v3 ⊗ (v0 ⊗ v2)) refl
    ∙ ap₂ (λ (x y : ℤ). x -ℤ a *ℤ y) hn hd
    ∙ ring (s ∷ t ∷ a ∷ b ∷ []) ((v0 ⊗ v2 ⊕ v1 ⊗ v3) ⊖ v2 ⊗ (v0 ⊗ num (pos 1) ⊕ v1 ⊗ num (pos 1))) (v1 ⊗ (v3 ⊖ v2)) refl

before_last : (k s t n d a b : ℤ) → k *ℤ n ≡ s *ℤ a +ℤ t *ℤ b → k *ℤ d ≡ s *ℤ pos 1 +ℤ t *ℤ pos 1
    → (b *ℤ d -ℤ n) *ℤ k ≡ s *ℤ (b -ℤ a)
before_last k s t n d a b hn hd =
    ring (k ∷ n ∷ d ∷ b ∷ []) ((v3 ⊗ v2 ⊖ v1) ⊗ v0) (v3 ⊗ (v0 ⊗ v2) ⊖ v0 ⊗ v1) refl
    ∙ ap₂ (λ (x y : ℤ). b *ℤ y -ℤ x) hn hd
    ∙ ring (s ∷ t ∷ a ∷ b ∷ []) (v3 ⊗ (v0 ⊗ num (pos 1) ⊕ v1 ⊗ num (pos 1)) ⊖ (v0 ⊗ v2 ⊕ v1 ⊗ v3)) (v0 ⊗ (v3 ⊖ v2)) refl

-- the place lies between two places, or at one, if the point does
pub record HasFloor (n d a b : ℤ) : Type 0 where
  pub place : ℤ
  pub floor : IsFloor n d place
  pub from : a ≤ℤ place
  pub to : place ≤ℤ b

not_before : (n d a z : ℤ) → pos 0 <ℤ d → IsFloor n d z → (a *ℤ d) ≤ℤ n → a ≤ℤ z
not_before n d a z hd f h = by_order (order a z) (λ o. o) (λ o.
    let m = after_floor n d z a hd f (omega (arith, ints, o)) in absurd (omega (arith, ints, m, h)))

not_after : (n d b z : ℤ) → pos 0 <ℤ d → IsFloor n d z → n ≤ℤ (b *ℤ d) → z ≤ℤ b
not_after n d b z hd f h = by_order (order z b) (λ o. o) (λ o.
    let m = at_most_times (b +ℤ pos 1) z d hd (omega (arith, ints, o)) in
    let e = one_more_times b d in
    let l = f.least in
    absurd (omega (arith, ints, m, e, l, h, hd)))

pub has_floor : (k s t n d a b : ℤ) → pos 0 <ℤ k → pos 0 ≤ℤ s → pos 0 ≤ℤ t → pos 0 <ℤ d → a ≤ℤ b
    → k *ℤ n ≡ s *ℤ a +ℤ t *ℤ b → k *ℤ d ≡ s *ℤ pos 1 +ℤ t *ℤ pos 1 → HasFloor n d a b
has_floor k s t n d a b hk hs ht pd ab hn hd =
    let f = floor_is n d (int_div_euclid n d) pd refl in
    let after = at_least_mul t (b -ℤ a) ht (omega (arith, ints)) in
    let ae = after_first k s t n d a b hn hd in
    let first = at_least_left (n -ℤ a *ℤ d) k hk (omega (arith, ints, after, ae)) in
    let before = at_least_mul s (b -ℤ a) hs (omega (arith, ints)) in
    let be = before_last k s t n d a b hn hd in
    let last = at_least_left (b *ℤ d -ℤ n) k hk (omega (arith, ints, before, be)) in
    record {
      place = int_div_euclid n d;
      floor = f;
      from = not_before n d a (int_div_euclid n d) pd f (omega (arith, ints, first));
      to = not_after n d b (int_div_euclid n d) pd f (omega (arith, ints, last));
    }

-- of ends at one place the point is there
pub at_one_place : (k s t n d a : ℤ) → pos 0 <ℤ k → k *ℤ n ≡ s *ℤ a +ℤ t *ℤ a → k *ℤ d ≡ s *ℤ pos 1 +ℤ t *ℤ pos 1
    → n ≡ a *ℤ d
at_one_place k s t n d a hk hn hd =
    let e : t *ℤ (a -ℤ a) ≡ pos 0 = ring (t ∷ a ∷ []) (v0 ⊗ (v1 ⊖ v1)) (num (pos 0)) refl in
    let z = zero_factor (n -ℤ a *ℤ d) k hk (after_first k s t n d a a hn hd ∙ e) in
    omega (arith, ints, z)
