-- Comparisons of numbers by their bits, and coordinates as they are handed on.
use Rattle.std.proofs.Common.{◌≡◌, ◌≤◌, eqb, eq-eqb, ℤ, FitsSigned, unsigned_abs, refl, sym, ap, ◌∙◌, to_z, of_z, arith}
use Rattle.std.specs.Ordering.{int_eq}
use Rattle.std.specs.Cmp.{both_ways}
use Rattle.std.proofs.lemmas.Bool.{eqb-true}
use Rattle.std.proofs.lemmas.Int.{to_z-of_z}
use mir.Syntax.{w32, w128}
use Rattle.scad_base.proofs.Tests.{int_eq-true}
use Rattle.scad_geom.specs.Limits.{coordinate_limit}
use Rattle.scad_geom.proofs.Casts.{handed}
use Rattle.slice_pieces.proofs.SameSpots.{to_eq}

pub same_bits : (a b : ℤ) → FitsSigned w128 a → FitsSigned w128 b → eqb (of_z w128 a) (of_z w128 b) ≡ int_eq a b
same_bits a b fits_a fits_b =
    both_ways (eqb (of_z w128 a) (of_z w128 b)) (int_eq a b)
    (λ h. to_eq a b (sym (to_z-of_z w128 a fits_a) ∙ ap (to_z w128) (eqb-true (of_z w128 a) (of_z w128 b) h)
    ∙ to_z-of_z w128 b fits_b))
    (λ h. eq-eqb (of_z w128 a) (of_z w128 b) (ap (of_z w128) (int_eq-true a b h)))

pub coordinate : (x : ℤ) → unsigned_abs x ≤ coordinate_limit → to_z w32 (of_z w32 x) ≡ x
coordinate x h = handed w32 x (omega arith) refl
