-- Numbers that calls pass by their bits.
use Rattle.std.proofs.Common.{◌≡◌, true, ℤ, ◌*ℤ◌, ◌<ℤ◌, ap, ◌∙◌, to_z, of_z, FitsSigned, arith}
use Rattle.std.proofs.lemmas.Int.{ints, to_z-of_z}
use lib.Signed.{lt_z}
use mir.Syntax.{w128}

pub both : {A : Type 0} (f : ℤ → ℤ → A) {a b c d : ℤ} → a ≡ b → c ≡ d → f a c ≡ f b d
both f {a} {b} {c} {d} e h = ap (λ (z : ℤ). f z c) e ∙ ap (f b) h

-- what a product stands for, where its factors stand for something
pub product_of : (t a b x y : ℤ) → FitsSigned w128 t → FitsSigned w128 a → FitsSigned w128 b
    → t ≡ to_z w128 (of_z w128 a) *ℤ to_z w128 (of_z w128 b) → a ≡ x → b ≡ y → to_z w128 (of_z w128 t) ≡ x *ℤ y
product_of t a b x y t_fits a_fits b_fits e p q =
    to_z-of_z w128 t t_fits ∙ e
    ∙ both (λ (u v : ℤ). u *ℤ v) (to_z-of_z w128 a a_fits ∙ p) (to_z-of_z w128 b b_fits ∙ q)

pub less_by : (a b : ℤ) → lt_z a b ≡ true → a <ℤ b
less_by a b h = grind (arith, ints)
