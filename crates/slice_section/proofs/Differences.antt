-- Differences of products, part by part; numbers as calls are given them.
use Rattle.std.proofs.Common.{◌≡◌, ℕ, zero, suc, ◌<◌, ◌≤◌, ◌^◌, true, eqb, ℤ, pos, negsuc, ◌-ℤ◌, ◌*ℤ◌, FitsSigned, unsigned_abs, refl, sym, subst, ap, ap₂, ◌∙◌, to_z, of_z, arith}
use Rattle.std.specs.Cmp.{both_ways}
use Rattle.std.proofs.lemmas.Bool.{eqb-true, true≢false}
use Rattle.std.proofs.lemmas.Int.{to_z-of_z}
use mir.Syntax.{w128}
use Rattle.scad_geom.specs.Sign.{is_zero}
use Rattle.scad_geom.proofs.Casts.{cast_size}

pub crossed_by : {a b c d e f g h : ℤ} → a ≡ e → b ≡ f → c ≡ g → d ≡ h → a *ℤ b -ℤ c *ℤ d ≡ e *ℤ f -ℤ g *ℤ h
crossed_by p q r s = ap₂ (λ (x y : ℤ). x -ℤ y) (ap₂ (λ (x y : ℤ). x *ℤ y) p q) (ap₂ (λ (x y : ℤ). x *ℤ y) r s)

-- ---- numbers as calls are given them
pub kept_size : (z : ℤ) (n : ℕ) → unsigned_abs z ≤ n → n < 2 ^ 127 → unsigned_abs (to_z w128 (of_z w128 z)) ≤ n
kept_size z n small few = subst (λ (m : ℕ). m ≤ n) (sym (cast_size w128 z (omega (arith, small, few)))) small

-- whether a number is 0 is seen by its bits
pub zero_bits : (z : ℤ) → FitsSigned w128 z → eqb (of_z w128 z) 0 ≡ is_zero z
zero_bits z fits =
    both_ways (eqb (of_z w128 z) 0) (is_zero z)
    (λ h. ap is_zero (sym (to_z-of_z w128 z fits) ∙ ap (to_z w128) (eqb-true (of_z w128 z) 0 h)))
    (from_zero z)
  where
    from_zero : (z : ℤ) → is_zero z ≡ true → eqb (of_z w128 z) 0 ≡ true
    from_zero (pos zero) h = refl
    from_zero (pos (suc n)) h = absurd (true≢false (sym h))
    from_zero (negsuc n) h = absurd (true≢false (sym h))
