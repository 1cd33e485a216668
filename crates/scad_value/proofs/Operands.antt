-- Operands that have no more elements, or none at all.
use Rattle.std.proofs.Common.{◌≡◌, ◌≢◌, ℕ, ℤ, true, false, Result, Ok, refl, ap, arith}
use Rattle.std.specs.Prelude.{◌==◌}
use Rattle.std.proofs.lemmas.Bool.Decides.{nat_tests}
use Rattle.scad_num.specs.declared.fault.NumFault.{NumFault}
use Rattle.scad_value.specs.Datum.{Datum, undef, boolean, number, string, vector, range, Elements, no_elements, element}
use Rattle.scad_value.specs.Elementwise.{Answer, by_pairs, by_pairs_of}
use Rattle.scad_value.specs.Kinds.{is_vector}
use Rattle.scad_value.specs.Products.{when}

pub pairs-none : (f : ℤ → ℤ → Result ℤ NumFault) (xs : Elements) → by_pairs_of f xs no_elements ≡ Ok no_elements
pairs-none f no_elements = refl
pairs-none f (element x xs) = refl

pub pairs-other : (f : ℤ → ℤ → Result ℤ NumFault) (xs : Elements) (d : Datum) → is_vector d ≡ false
    → by_pairs f (vector xs) d ≡ Ok undef
pairs-other f xs undef isnt = refl
pairs-other f xs (boolean b) isnt = refl
pairs-other f xs (number z) isnt = refl
pairs-other f xs (string chars) isnt = refl
pairs-other f xs (vector ys) isnt = absurd (cc)
pairs-other f xs (range s t e) isnt = refl

differs : (n m : ℕ) → n ≢ m → (n == m) ≡ false
differs n m apart = grind (arith, nat_tests)

agrees : (n m : ℕ) → n ≡ m → (n == m) ≡ true
agrees n m same = grind (arith, nat_tests)

-- inner lengths that differ, and ones that agree
pub when-differs : (n m : ℕ) (answer : Answer) → n ≢ m → when (n == m) answer ≡ Ok undef
when-differs n m answer apart = ap (λ b. when b answer) (differs n m apart)

pub when-agrees : (n m : ℕ) (answer : Answer) → n ≡ m → when (n == m) answer ≡ answer
when-agrees n m answer same = ap (λ b. when b answer) (agrees n m same)
