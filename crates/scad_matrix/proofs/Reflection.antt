-- Sizes and roundings of a reflection's entries.
use Rattle.std.proofs.Common.{◌≡◌, ℕ, zero, suc, Bool, true, false, ◌+◌, ◌*◌, ◌-◌, ◌/◌, ◌<◌, ◌≤◌, ℤ, pos, negsuc, neg_ℤ, ◌+ℤ◌, ◌-ℤ◌, ◌*ℤ◌, ◌≤ℤ◌, unsigned_abs, arith, refl, ap, ap₂, sym, ◌∙◌, subst, inl, inr}
use Rattle.std.proofs.lemmas.Int.{ints, unsigned_abs-mul}
use Rattle.std.proofs.lemmas.Bool.{cases_lt}
use Rattle.std.proofs.Math.Nat.{mul-le-mul_left}
use Rattle.std.specs.Prelude.{int_lt, if◌then◌else◌}
use Rattle.std.specs.Ordering.{int_eq}
use Rattle.scad_base.proofs.Tests.{int_eq-true}
use Rattle.scad_num.specs.Rounding.{half_up, half_away}
use Rattle.scad_matrix.specs.declared.matrix.Matrix.{Matrix}
use Rattle.scad_matrix.specs.Makers.{square_of, reflection, translation, row, along, across}
use borrow.Author.Tests.{ltb-true}

-- a quotient of at most m is rounded to at most m
pub half_up-small : (n d m : ℕ) → 0 < d → n ≤ m * d → half_up n d ≤ m
unfolding half_up
half_up-small n d m some small =
    let q = (2 * n + d) / (2 * d) in
    elim (cases_lt m q) [
      | inl more ↦ (let larger : (2 * d) * suc m ≤ (2 * d) * q = mul-le-mul_left (2 * d) more in absurd (omega arith))
      | inr most ↦ most
    ]

pub half_away-below : (n : ℤ) (d : ℕ) → int_lt n (pos 0) ≡ true
    → half_away n d ≡ neg_ℤ (pos (half_up (unsigned_abs n) d))
unfolding half_away
half_away-below (pos n) d below = absurd (omega (arith, ltb-true n 0 below))
half_away-below (negsuc n) d below = refl

pub half_away-above : (n : ℤ) (d : ℕ) → int_lt n (pos 0) ≡ false → half_away n d ≡ pos (half_up (unsigned_abs n) d)
unfolding half_away
half_away-above (pos n) d above = refl
half_away-above (negsuc n) d above = absurd (cc)

-- twice a product is at most the sum of the squares
twice_apart : (p k : ℕ) → 2 * (p * (p + k)) ≤ p * p + (p + k) * (p + k)
twice_apart p k = omega arith

twice_product : (p q : ℕ) → 2 * (p * q) ≤ p * p + q * q
twice_product p q =
    elim (cases_lt p q) [
      | inl less ↦ subst (λ r. 2 * (p * r) ≤ p * p + r * r) {x = p + (q - p)} {y = q} (omega arith)
          (twice_apart p (q - p))
      | inr most ↦ (let other : 2 * (q * p) ≤ q * q + p * p = subst (λ r. 2 * (q * r) ≤ q * q + r * r) {x = q + (p - q)} {y = p} (omega arith) (twice_apart q (p - q)) in omega arith)
    ]

square-pos : (z : ℤ) → z *ℤ z ≡ pos (unsigned_abs z * unsigned_abs z)
square-pos (pos n) = refl
square-pos (negsuc n) = refl

sum_of_squares : (x y z : ℤ) → square_of x y z ≡ pos (unsigned_abs x * unsigned_abs x + unsigned_abs y * unsigned_abs y
    + unsigned_abs z * unsigned_abs z)
sum_of_squares x y z = ap₂ (λ a b. a +ℤ b) (ap₂ (λ a b. a +ℤ b) (square-pos x) (square-pos y)) (square-pos z)

-- so for any two coordinates of a normal
pub twice-xy : (x y z s : ℤ) → s ≡ square_of x y z → 2 * unsigned_abs (x *ℤ y) ≤ unsigned_abs s
twice-xy x y z s is = subst (λ t. 2 * unsigned_abs (x *ℤ y) ≤ unsigned_abs t) (sym (is ∙ sum_of_squares x y z))
    (omega (arith, unsigned_abs-mul x y, twice_product (unsigned_abs x) (unsigned_abs y)))

pub twice-yz : (x y z s : ℤ) → s ≡ square_of x y z → 2 * unsigned_abs (y *ℤ z) ≤ unsigned_abs s
twice-yz x y z s is = subst (λ t. 2 * unsigned_abs (y *ℤ z) ≤ unsigned_abs t) (sym (is ∙ sum_of_squares x y z))
    (omega (arith, unsigned_abs-mul y z, twice_product (unsigned_abs y) (unsigned_abs z)))

pub twice-zx : (x y z s : ℤ) → s ≡ square_of x y z → 2 * unsigned_abs (z *ℤ x) ≤ unsigned_abs s
twice-zx x y z s is = subst (λ t. 2 * unsigned_abs (z *ℤ x) ≤ unsigned_abs t) (sym (is ∙ sum_of_squares x y z))
    (omega (arith, unsigned_abs-mul z x, twice_product (unsigned_abs z) (unsigned_abs x)))

-- the square is at least each coordinate's, and 1 where it isn't 0
square_part : (a b c : ℕ) → (pos a ≤ℤ pos (a + b + c)) × (pos b ≤ℤ pos (a + b + c)) × (pos c ≤ℤ pos (a + b + c))
square_part a b c = (omega (arith, ints), omega (arith, ints), omega (arith, ints))

pub square-x : (x y z s : ℤ) → s ≡ square_of x y z → (x *ℤ x) ≤ℤ s
square-x x y z s is = subst (λ (t : ℤ). t ≤ℤ s) (sym (square-pos x))
    (subst (λ (t : ℤ). pos (unsigned_abs x * unsigned_abs x) ≤ℤ t) (sym (is ∙ sum_of_squares x y z))
    (square_part _ (unsigned_abs y * unsigned_abs y) (unsigned_abs z * unsigned_abs z)).0)

pub square-y : (x y z s : ℤ) → s ≡ square_of x y z → (y *ℤ y) ≤ℤ s
square-y x y z s is = subst (λ (t : ℤ). t ≤ℤ s) (sym (square-pos y))
    (subst (λ (t : ℤ). pos (unsigned_abs y * unsigned_abs y) ≤ℤ t) (sym (is ∙ sum_of_squares x y z))
    (square_part (unsigned_abs x * unsigned_abs x) _ (unsigned_abs z * unsigned_abs z)).1)

pub square-z : (x y z s : ℤ) → s ≡ square_of x y z → (z *ℤ z) ≤ℤ s
square-z x y z s is = subst (λ (t : ℤ). t ≤ℤ s) (sym (square-pos z))
    (subst (λ (t : ℤ). pos (unsigned_abs z * unsigned_abs z) ≤ℤ t) (sym (is ∙ sum_of_squares x y z))
    (square_part (unsigned_abs x * unsigned_abs x) (unsigned_abs y * unsigned_abs y) _).2)

natural-some : (n : ℕ) → (pos n ≡ pos 0 → ⊥) → pos 1 ≤ℤ pos n
natural-some zero some = absurd (some refl)
natural-some (suc n) some = omega (arith, ints)

pub square-some : (x y z s : ℤ) → s ≡ square_of x y z → (s ≡ pos 0 → ⊥) → pos 1 ≤ℤ s
square-some x y z s is some =
    let sum = is ∙ sum_of_squares x y z in
    subst (λ (t : ℤ). pos 1 ≤ℤ t) (sym sum) (natural-some _ (λ e. some (sum ∙ e)))

-- an entry on the diagonal is between -1 and 1
diagonal_small : (n : ℕ) (s : ℤ) → pos n ≤ℤ s
    → unsigned_abs (pos 1000000 *ℤ s -ℤ pos 2000000 *ℤ pos n) ≤ 1000000 * unsigned_abs s
diagonal_small n (pos m) part = omega (arith, ints)
diagonal_small n (negsuc m) part = absurd (omega (arith, ints))

pub along-small : (v s : ℤ) → (v *ℤ v) ≤ℤ s
    → unsigned_abs (pos 1000000 *ℤ s -ℤ pos 2000000 *ℤ (v *ℤ v)) ≤ 1000000 * unsigned_abs s
along-small v s part =
    subst (λ (t : ℤ). unsigned_abs (pos 1000000 *ℤ s -ℤ pos 2000000 *ℤ t) ≤ 1000000 * unsigned_abs s)
    (sym (square-pos v)) (diagonal_small (unsigned_abs v * unsigned_abs v) s
    (subst (λ (t : ℤ). t ≤ℤ s) (square-pos v) part))

-- what is divided for it, from its parts
pub along-exact : (v s m whole twice product : ℤ) → m ≡ whole -ℤ twice → whole ≡ pos 1000000 *ℤ s
    → twice ≡ pos 2000000 *ℤ product → product ≡ v *ℤ v → m ≡ pos 1000000 *ℤ s -ℤ pos 2000000 *ℤ (v *ℤ v)
along-exact v s m whole twice product minus left right square =
    minus ∙ ap₂ (λ a b. a -ℤ b) left (right ∙ ap (λ p. pos 2000000 *ℤ p) square)

-- the reflection of a normal that isn't 0, by its entries
abbrev with_entries : (a b c p q r o : ℤ) → Matrix
with_entries a b c p q r o = record { x = row a p r o; y = row p b q o; z = row r q c o }

abbrev with_square : (x y z s : ℤ) → Matrix
with_square x y z s =
    with_entries (along x s) (along y s) (along z s) (across x y s) (across y z s) (across z x s) (pos 0)

false_unless : (b : Bool) → (b ≡ true → ⊥) → b ≡ false
false_unless true wrong = absurd (wrong refl)
false_unless false _ = refl

pub reflected : (x y z s a b c p q r o : ℤ) → s ≡ square_of x y z → (s ≡ pos 0 → ⊥)
    → a ≡ along x s → b ≡ along y s → c ≡ along z s → p ≡ across x y s → q ≡ across y z s → r ≡ across z x s
    → o ≡ pos 0 → with_entries a b c p q r o ≡ reflection x y z
unfolding reflection
reflected x y z s a b c p q r o is some ea eb ec ep eq er eo =
    (λ i. with_entries (ea i) (eb i) (ec i) (ep i) (eq i) (er i) (eo i))
    ∙ ap (λ t. if t then translation (pos 0) (pos 0) (pos 0) else with_square x y z s)
    (sym (false_unless (int_eq s (pos 0)) (λ e. some (int_eq-true s (pos 0) e))))
    ∙ ap (λ t. if int_eq t (pos 0) then translation (pos 0) (pos 0) (pos 0) else with_square x y z t) is
