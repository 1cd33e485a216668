-- Sums and products of whole numbers, and their signs.
use Rattle.std.proofs.Common.{◌≡◌, zero, suc, true, [], ◌∷◌, refl, sym, subst, ◌∙◌, arith, ◌+ℤ◌}
use Rattle.scad_base.proofs.Products.{positive_product, negative_product, negative_factor}
use Rattle.std.proofs.Common.{ℤ, pos, negsuc, ◌-ℤ◌, ◌*ℤ◌, neg_ℤ, int_lt, ◌<ℤ◌}
use lib.Signed.{◌≤ℤ◌}
use Rattle.std.proofs.lemmas.Int.{ints}
use Rattle.std.proofs.Math.IntN.{zero-*ℤ, *ℤ_comm}
use Rattle.scad_geom.proofs.Ring.{ring, num, ◌⊕◌, ◌⊖◌, ◌⊗◌, v0, v1, v2}
use Rattle.scad_geom.specs.Sign.{is_zero}

pub sub-zero : (z : ℤ) → z -ℤ pos 0 ≡ z
sub-zero z = omega (arith, ints)

pub one-mul : (z : ℤ) → pos 1 *ℤ z ≡ z
one-mul z = omega (arith, ints)

pub mul-one : (z : ℤ) → z *ℤ pos 1 ≡ z
mul-one z = omega (arith, ints)

pub minus_one-mul : (z : ℤ) → negsuc 0 *ℤ z ≡ neg_ℤ z
minus_one-mul z = omega (arith, ints)

pub zero_true : (z : ℤ) → is_zero z ≡ true → z ≡ pos 0
zero_true (pos zero) h = refl
zero_true (pos (suc n)) h = cc
zero_true (negsuc n) h = cc

-- products of differences, and with 0
pub sub_mul : (a b c : ℤ) → (a -ℤ b) *ℤ c ≡ a *ℤ c -ℤ b *ℤ c
sub_mul a b c = ring (a ∷ b ∷ c ∷ []) ((v0 ⊖ v1) ⊗ v2) (v0 ⊗ v2 ⊖ v1 ⊗ v2) refl

pub minus_times : (a b : ℤ) → (pos 0 -ℤ a) *ℤ b ≡ pos 0 -ℤ a *ℤ b
minus_times a b = ring (a ∷ b ∷ []) ((num (pos 0) ⊖ v0) ⊗ v1) (num (pos 0) ⊖ v0 ⊗ v1) refl

pub one_more_times : (a b : ℤ) → (a +ℤ pos 1) *ℤ b ≡ a *ℤ b +ℤ b
one_more_times a b = ring (a ∷ b ∷ []) ((v0 ⊕ num (pos 1)) ⊗ v1) (v0 ⊗ v1 ⊕ v1) refl

pub one_less_times : (a b : ℤ) → (a -ℤ pos 1) *ℤ b ≡ a *ℤ b -ℤ b
one_less_times a b = ring (a ∷ b ∷ []) ((v0 ⊖ num (pos 1)) ⊗ v1) (v0 ⊗ v1 ⊖ v1) refl

pub add_times_zero : (a b : ℤ) → a +ℤ b *ℤ pos 0 ≡ a
add_times_zero a b = ring (a ∷ b ∷ []) (v0 ⊕ v1 ⊗ num (pos 0)) v0 refl

pub sub_times_zero : (a b : ℤ) → a -ℤ b *ℤ pos 0 ≡ a
sub_times_zero a b = ring (a ∷ b ∷ []) (v0 ⊖ v1 ⊗ num (pos 0)) v0 refl

-- a product with a factor above 0 is below 0 where the other factor is
pub product_is_negative : (k d : ℤ) → pos 0 <ℤ k → int_lt (pos 0) (neg_ℤ (k *ℤ d)) ≡ int_lt d (pos 0)
product_is_negative (pos zero) d positive = absurd (omega (arith, ints))
product_is_negative (pos (suc k)) (pos n) positive = grind (arith, ints)
product_is_negative (pos (suc k)) (negsuc n) positive = grind (arith, ints)
product_is_negative (negsuc k) d positive = absurd (omega (arith, ints))

pub at_least_mul : (a b : ℤ) → pos 0 ≤ℤ a → pos 0 ≤ℤ b → pos 0 ≤ℤ (a *ℤ b)
at_least_mul (pos m) (pos n) p q = omega (arith, ints)
at_least_mul (pos m) (negsuc n) p q = absurd (omega (arith, ints))
at_least_mul (negsuc m) b p q = absurd (omega (arith, ints))

-- a factor of a product with a positive factor has the sign of the product
pub pos_left : (a r : ℤ) → pos 0 <ℤ r → pos 0 <ℤ (a *ℤ r) → pos 0 <ℤ a
pos_left (pos zero) r p q = absurd (omega (arith, ints))
pos_left (pos (suc m)) r p q = omega (arith, ints)
pos_left (negsuc m) r p q = let d : negsuc m <ℤ pos 0 = omega (arith, ints) in absurd (omega (arith, ints, negative_product (negsuc m) r p d))

pub at_least_left : (a r : ℤ) → pos 0 <ℤ r → pos 0 ≤ℤ (a *ℤ r) → pos 0 ≤ℤ a
at_least_left (pos m) r p q = omega (arith, ints)
at_least_left (negsuc m) r p q = let d : negsuc m <ℤ pos 0 = omega (arith, ints) in absurd (omega (arith, ints, negative_product (negsuc m) r p d))

pub at_most_mul : (a r : ℤ) → a ≤ℤ pos 0 → pos 0 ≤ℤ r → (a *ℤ r) ≤ℤ pos 0
at_most_mul (pos zero) r p q = rw (zero-*ℤ r) (omega (arith, ints))
at_most_mul (pos (suc m)) r p q = absurd (omega (arith, ints))
at_most_mul (negsuc m) (pos n) p q = omega (arith, ints)
at_most_mul (negsuc m) (negsuc n) p q = absurd (omega (arith, ints))

pub sum_at_least : (s t : ℤ) → pos 0 ≤ℤ s → pos 0 ≤ℤ t → pos 0 ≤ℤ (s +ℤ t)
sum_at_least s t h k = omega (arith, ints)

-- the gap of equal numbers is 0
pub no_gap : (s t : ℤ) → s ≡ t → s -ℤ t ≡ pos 0
no_gap s t h = omega (arith, ints)

-- a square isn't below 0
pub square_at_least : (z : ℤ) → pos 0 ≤ℤ (z *ℤ z)
square_at_least (pos n) = at_least_mul (pos n) (pos n) (omega (arith, ints)) (omega (arith, ints))
square_at_least (negsuc n) = at_least_mul (pos (suc n)) (pos (suc n)) (omega (arith, ints)) (omega (arith, ints))

pub positive_as : (s t : ℤ) → s ≡ t → pos 0 <ℤ s → pos 0 <ℤ t
positive_as s t e h = omega (arith, ints)

-- of two equal products with positive factors the other factors have one sign
pub climbs : (k l a b : ℤ) → pos 0 <ℤ k → pos 0 <ℤ l → k *ℤ a ≡ l *ℤ b → pos 0 <ℤ b → pos 0 <ℤ a
climbs k l a b kp lp h n =
    pos_left a k kp (subst (λ (z : ℤ). pos 0 <ℤ z) (sym (*ℤ_comm a k ∙ h)) (positive_product l b lp n))

pub falls : (k l a b : ℤ) → pos 0 <ℤ k → pos 0 <ℤ l → k *ℤ a ≡ l *ℤ b → b <ℤ pos 0 → a <ℤ pos 0
falls k l a b kp lp h n =
    negative_factor a k kp
    (subst (λ (z : ℤ). z <ℤ pos 0) (sym (*ℤ_comm a k ∙ h ∙ *ℤ_comm l b)) (negative_product b l lp n))
