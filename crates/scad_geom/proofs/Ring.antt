-- Identities of polynomials over whole numbers, by a normal form that computes.
use Rattle.std.proofs.Common.{◌≡◌, ℕ, zero, suc, Bool, true, false, List, [], ◌∷◌, ℤ, pos, negsuc, ◌+ℤ◌, ◌-ℤ◌, ◌*ℤ◌, arith, refl, ap, sym, ◌∙◌, ap₂, nat_lt, ◌==◌, cond}
use Rattle.std.proofs.lemmas.Int.{ints}
use Rattle.std.proofs.Math.IntN.{+ℤ_assoc, *ℤ_comm}
use borrow.Author.Tests.{eqb-true}
use Rattle.scad_geom.proofs.Integers.{add_mul, mul_assoc}
use Rattle.scad_geom.specs.Sign.{is_zero}

-- an expression over numbered variables
pub data Term : Type 0 where
  num : ℤ → Term
  var : ℕ → Term
  plus : Term → Term → Term
  less : Term → Term → Term
  times : Term → Term → Term

abbrev pub value_at : List ℤ → ℕ → ℤ
value_at [] k = pos 0
value_at (x ∷ xs) zero = x
value_at (x ∷ xs) (suc k) = value_at xs k

-- what an expression is worth where the variables have these values
abbrev pub worth : List ℤ → Term → ℤ
worth xs (num z) = z
worth xs (var k) = value_at xs k
worth xs (plus a b) = worth xs a +ℤ worth xs b
worth xs (less a b) = worth xs a -ℤ worth xs b
worth xs (times a b) = worth xs a *ℤ worth xs b

-- a product of variables in ascending order, and a sum of such products with their factors, also in order
abbrev pub factors_worth : List ℤ → List ℕ → ℤ
factors_worth xs [] = pos 1
factors_worth xs (k ∷ ks) = value_at xs k *ℤ factors_worth xs ks

pub data Sum : Type 0 where
  none : Sum
  more : ℤ → List ℕ → Sum → Sum

abbrev pub sum_worth : List ℤ → Sum → ℤ
sum_worth xs none = pos 0
sum_worth xs (more c ks s) = c *ℤ factors_worth xs ks +ℤ sum_worth xs s

abbrev pub with_factor : ℕ → List ℕ → List ℕ
with_factor j [] = j ∷ []
with_factor j (k ∷ ks) = cond (nat_lt k j) (k ∷ with_factor j ks) (j ∷ k ∷ ks)

abbrev pub with_factors : List ℕ → List ℕ → List ℕ
with_factors [] ks = ks
with_factors (j ∷ js) ks = with_factor j (with_factors js ks)

-- which of two products stands first, and whether they are the same
abbrev pub is_same : List ℕ → List ℕ → Bool
is_same [] [] = true
is_same [] (k ∷ ks) = false
is_same (j ∷ js) [] = false
is_same (j ∷ js) (k ∷ ks) = cond (j == k) (is_same js ks) false

abbrev pub is_before : List ℕ → List ℕ → Bool
is_before [] ks = true
is_before (j ∷ js) [] = false
is_before (j ∷ js) (k ∷ ks) = cond (nat_lt j k) true (cond (nat_lt k j) false (is_before js ks))

abbrev pub kept : ℤ → List ℕ → Sum → Sum
kept c ks s = cond (is_zero c) s (more c ks s)

abbrev pub with_product : ℤ → List ℕ → Sum → Sum
with_product c js none = more c js none
with_product c js (more d ks s) = cond (is_same js ks) (kept (c +ℤ d) ks s)
    (cond (is_before js ks) (more c js (more d ks s)) (more d ks (with_product c js s)))

abbrev pub sum_of : Sum → Sum → Sum
sum_of none t = t
sum_of (more c ks s) t = with_product c ks (sum_of s t)

abbrev pub scaled : ℤ → List ℕ → Sum → Sum
scaled c js none = none
scaled c js (more d ks s) = with_product (c *ℤ d) (with_factors js ks) (scaled c js s)

abbrev pub product_of : Sum → Sum → Sum
product_of none t = none
product_of (more c js s) t = sum_of (scaled c js t) (product_of s t)

-- an expression multiplied out
abbrev pub normal : Term → Sum
normal (num z) = kept z [] none
normal (var k) = more (pos 1) (k ∷ []) none
normal (plus a b) = sum_of (normal a) (normal b)
normal (less a b) = sum_of (normal a) (scaled (negsuc 0) [] (normal b))
normal (times a b) = product_of (normal a) (normal b)

swap_terms : (a b c : ℤ) → a +ℤ (b +ℤ c) ≡ b +ℤ (a +ℤ c)
swap_terms a b c = omega (arith, ints)

minus_once : (a b : ℤ) → a +ℤ (negsuc 0 *ℤ pos 1) *ℤ b ≡ a -ℤ b
minus_once a b = omega (arith, ints)

pub crossed : (a b c d : ℤ) → (a *ℤ b) *ℤ (c *ℤ d) ≡ (a *ℤ c) *ℤ (b *ℤ d)
crossed a b c d =
    mul_assoc a b (c *ℤ d)
    ∙ ap (λ z. a *ℤ z) (sym (mul_assoc b c d) ∙ ap (λ z. z *ℤ d) (*ℤ_comm b c) ∙ mul_assoc c b d)
    ∙ sym (mul_assoc a c (b *ℤ d))

spread : (c x d y s : ℤ) → (c *ℤ d) *ℤ (x *ℤ y) +ℤ (c *ℤ x) *ℤ s ≡ (c *ℤ x) *ℤ (d *ℤ y +ℤ s)
spread c x d y s =
    ap (λ z. z +ℤ (c *ℤ x) *ℤ s) (crossed c d x y)
    ∙ sym (ap₂ (λ u v. u +ℤ v) (*ℤ_comm (d *ℤ y) (c *ℤ x)) (*ℤ_comm s (c *ℤ x)))
    ∙ sym (add_mul (d *ℤ y) s (c *ℤ x))
    ∙ *ℤ_comm (d *ℤ y +ℤ s) (c *ℤ x)

module _ (xs : List ℤ) where
  swap_factors : (a b c : ℤ) → a *ℤ (b *ℤ c) ≡ b *ℤ (a *ℤ c)
  swap_factors a b c = sym (mul_assoc a b c) ∙ ap (λ z. z *ℤ c) (*ℤ_comm a b) ∙ mul_assoc b a c

  with_factor-worth : (j : ℕ) (ks : List ℕ) → factors_worth xs (with_factor j ks) ≡ value_at xs j *ℤ factors_worth xs ks
  with_factor-worth j [] = refl
  with_factor-worth j (k ∷ ks) =
      elim (nat_lt k j) as (λ b. factors_worth xs (cond b (k ∷ with_factor j ks) (j ∷ k ∷ ks)) ≡ value_at xs j *ℤ
      (value_at xs k *ℤ factors_worth xs ks)) [
        | true ↦ ap (λ z. value_at xs k *ℤ z) (with_factor-worth j ks) ∙ swap_factors (value_at xs k) (value_at xs j)
            (factors_worth xs ks)
        | false ↦ refl
      ]

  with_factors-worth : (js ks : List ℕ) → factors_worth xs (with_factors js ks) ≡ factors_worth xs js *ℤ factors_worth
      xs ks
  with_factors-worth [] ks = omega (arith, ints)
  with_factors-worth (j ∷ js) ks =
      with_factor-worth j (with_factors js ks)
      ∙ ap (λ z. value_at xs j *ℤ z) (with_factors-worth js ks)
      ∙ sym (mul_assoc (value_at xs j) (factors_worth xs js) (factors_worth xs ks))

  same_factors : (js ks : List ℕ) → is_same js ks ≡ true → factors_worth xs js ≡ factors_worth xs ks
  same_factors [] [] h = refl
  same_factors [] (k ∷ ks) h = cc
  same_factors (j ∷ js) [] h = cc
  same_factors (j ∷ js) (k ∷ ks) h =
      elim (j == k) as (λ b. (j == k ≡ b) → cond b (is_same js ks) false ≡ true → value_at xs j *ℤ factors_worth xs js
      ≡ value_at xs k *ℤ factors_worth xs ks) [
        | true ↦ (λ e g. let f = same_factors js ks g in ap₂ (λ i z. value_at xs i *ℤ z) (eqb-true j k e) f)
        | false ↦ (λ e g. cc)
      ] refl h

  kept-worth : (c : ℤ) (ks : List ℕ) (s : Sum) → sum_worth xs (kept c ks s) ≡ c *ℤ factors_worth xs ks +ℤ sum_worth xs s
  kept-worth (pos zero) ks s = omega (arith, ints)
  kept-worth (pos (suc n)) ks s = refl
  kept-worth (negsuc n) ks s = refl

  with_product-worth : (c : ℤ) (js : List ℕ) (s : Sum) → sum_worth xs (with_product c js s) ≡ c *ℤ factors_worth xs js
      +ℤ sum_worth xs s
  with_product-worth c js none = refl
  with_product-worth c js (more d ks s) =
      let tail = with_product-worth c js s in
      elim (is_same js ks) as (λ b. (is_same js ks ≡ b)
      → sum_worth xs (cond b (kept (c +ℤ d) ks s) (cond (is_before js ks) (more c js (more d ks s))
      (more d ks (with_product c js s)))) ≡ c *ℤ factors_worth xs js +ℤ (d *ℤ factors_worth xs ks +ℤ sum_worth xs
      s)) [
        | true ↦ (λ e. kept-worth (c +ℤ d) ks s ∙ ap (λ z. z +ℤ sum_worth xs s) (add_mul c d (factors_worth xs ks)) ∙
            +ℤ_assoc (c *ℤ factors_worth xs ks) (d *ℤ factors_worth xs ks) (sum_worth xs s) ∙ ap
            (λ z. c *ℤ z +ℤ (d *ℤ factors_worth xs ks +ℤ sum_worth xs s)) (sym (same_factors js ks e)))
        | false ↦ (λ e. elim (is_before js ks) as
            (λ b. sum_worth xs (cond b (more c js (more d ks s)) (more d ks (with_product c js s))) ≡ c *ℤ factors_worth
            xs js +ℤ (d *ℤ factors_worth xs ks +ℤ sum_worth xs s)) [
              | true ↦ refl
              | false ↦ ap (λ z. d *ℤ factors_worth xs ks +ℤ z) tail ∙ swap_terms (d *ℤ factors_worth xs ks)
                  (c *ℤ factors_worth xs js) (sum_worth xs s)
            ])
      ] refl

  sum_of-worth : (s t : Sum) → sum_worth xs (sum_of s t) ≡ sum_worth xs s +ℤ sum_worth xs t
  sum_of-worth none t = omega (arith, ints)
  sum_of-worth (more c ks s) t =
      with_product-worth c ks (sum_of s t)
      ∙ ap (λ z. c *ℤ factors_worth xs ks +ℤ z) (sum_of-worth s t)
      ∙ sym (+ℤ_assoc (c *ℤ factors_worth xs ks) (sum_worth xs s) (sum_worth xs t))

  scaled-worth : (c : ℤ) (js : List ℕ) (s : Sum) → sum_worth xs (scaled c js s) ≡ (c *ℤ factors_worth xs js) *ℤ
      sum_worth xs s
  scaled-worth c js none = omega (arith, ints)
  scaled-worth c js (more d ks s) =
      with_product-worth (c *ℤ d) (with_factors js ks) (scaled c js s)
      ∙ ap₂ (λ y z. (c *ℤ d) *ℤ y +ℤ z) (with_factors-worth js ks) (scaled-worth c js s)
      ∙ spread c (factors_worth xs js) d (factors_worth xs ks) (sum_worth xs s)

  product_of-worth : (s t : Sum) → sum_worth xs (product_of s t) ≡ sum_worth xs s *ℤ sum_worth xs t
  product_of-worth none t = omega (arith, ints)
  product_of-worth (more c js s) t =
      sum_of-worth (scaled c js t) (product_of s t)
      ∙ ap₂ (λ y z. y +ℤ z) (scaled-worth c js t) (product_of-worth s t)
      ∙ sym (add_mul (c *ℤ factors_worth xs js) (sum_worth xs s) (sum_worth xs t))

  normal-worth : (a : Term) → sum_worth xs (normal a) ≡ worth xs a
  normal-worth (num z) = kept-worth z [] none ∙ (omega (arith, ints))
  normal-worth (var k) = omega (arith, ints)
  normal-worth (plus a b) = sum_of-worth (normal a) (normal b) ∙ ap₂ (λ y z. y +ℤ z) (normal-worth a) (normal-worth b)
  normal-worth (less a b) =
      sum_of-worth (normal a) (scaled (negsuc 0) [] (normal b))
      ∙ ap₂ (λ y z. y +ℤ z) (normal-worth a) (scaled-worth (negsuc 0) [] (normal b) ∙ ap (λ z. (negsuc 0 *ℤ pos 1) *ℤ z)
      (normal-worth b))
      ∙ minus_once (worth xs a) (worth xs b)
  normal-worth (times a b) = product_of-worth (normal a) (normal b) ∙ ap₂ (λ y z. y *ℤ z) (normal-worth a)
      (normal-worth b)

  -- expressions that are the same when multiplied out are worth the same
  pub ring : (a b : Term) → normal a ≡ normal b → worth xs a ≡ worth xs b
  ring a b e = sym (normal-worth a) ∙ ap (sum_worth xs) e ∙ normal-worth b

-- the same in symbols, for identities over many variables
infixl 65 ◌⊕◌
infixl 65 ◌⊖◌
infixl 70 ◌⊗◌
abbrev pub ◌⊕◌ : Term → Term → Term
a ⊕ b = plus a b

abbrev pub ◌⊖◌ : Term → Term → Term
a ⊖ b = less a b

abbrev pub ◌⊗◌ : Term → Term → Term
a ⊗ b = times a b

abbrev pub v0 : Term
v0 = var 0

abbrev pub v1 : Term
v1 = var 1

abbrev pub v2 : Term
v2 = var 2

abbrev pub v3 : Term
v3 = var 3

abbrev pub v4 : Term
v4 = var 4

abbrev pub v5 : Term
v5 = var 5

abbrev pub v6 : Term
v6 = var 6

abbrev pub v7 : Term
v7 = var 7

abbrev pub v8 : Term
v8 = var 8

abbrev pub v9 : Term
v9 = var 9

abbrev pub v10 : Term
v10 = var 10

abbrev pub v11 : Term
v11 = var 11

abbrev pub v12 : Term
v12 = var 12

abbrev pub v13 : Term
v13 = var 13

abbrev pub v14 : Term
v14 = var 14

abbrev pub v15 : Term
v15 = var 15
