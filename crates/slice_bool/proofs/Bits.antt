-- Comparisons of numbers by their bits.
use Rattle.std.proofs.Common.{◌≡◌, zero, suc, true, eqb, eq-eqb, ℤ, pos, negsuc, FitsSigned, refl, sym, ap, ◌∙◌, to_z, of_z}
use Rattle.std.specs.Ordering.{int_eq}
use Rattle.std.specs.Cmp.{both_ways}
use Rattle.std.proofs.lemmas.Bool.{eqb-true, true≢false}
use Rattle.std.proofs.lemmas.Int.{to_z-of_z}
use mir.Syntax.{w128}
use Rattle.scad_base.proofs.Tests.{int_eq-true}
use Rattle.scad_geom.specs.Sign.{is_zero}
use Rattle.slice_pieces.proofs.SameSpots.{to_eq}

pub zero_bits : (z : ℤ) → FitsSigned w128 z → eqb (of_z w128 z) 0 ≡ is_zero z
zero_bits z fits =
    both_ways (eqb (of_z w128 z) 0) (is_zero z)
    (λ h. ap is_zero (sym (to_z-of_z w128 z fits) ∙ ap (to_z w128) (eqb-true (of_z w128 z) 0 h)))
    (from_zero z)
  where
    from_zero : (z : ℤ) → is_zero z ≡ true → eqb (of_z w128 z) 0 ≡ true
    from_zero (pos zero) h = refl
    from_zero (pos (suc n)) h = absurd (true≢false (sym h))
    from_zero (negsuc n) h = absurd (true≢false (sym h))

pub same_bits : (a b : ℤ) → FitsSigned w128 a → FitsSigned w128 b → eqb (of_z w128 a) (of_z w128 b) ≡ int_eq a b
same_bits a b fits_a fits_b =
    both_ways (eqb (of_z w128 a) (of_z w128 b)) (int_eq a b)
    (λ h. to_eq a b (sym (to_z-of_z w128 a fits_a) ∙ ap (to_z w128) (eqb-true (of_z w128 a) (of_z w128 b) h)
    ∙ to_z-of_z w128 b fits_b))
    (λ h. eq-eqb (of_z w128 a) (of_z w128 b) (ap (of_z w128) (int_eq-true a b h)))
