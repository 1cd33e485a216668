-- Decimals of a number, one by one.
use Rattle.std.proofs.Common.{◌≡◌, ℕ, zero, suc, ◌+◌, ◌-◌, ◌*◌, ◌/◌, ◌%◌, ◌<◌, ◌≤◌, length, List, [], ◌∷◌, refl, ap, sym, ◌∙◌, arith, false}
use Rattle.std.proofs.lemmas.Bool.Decides.{nat_tests}
use Rattle.std.proofs.lemmas.Fmt.{length-decimal-le}
use Rattle.std.specs.Fmt.{decimal}
use Rattle.std.specs.Prelude.{◌==◌, if◌then◌else◌}
use Rattle.scad_num.specs.Number.{one}
use Rattle.scad_num.specs.Text.{decimals_of}

pub no_places : (places parts : ℕ) → places ≤ 0 → decimals_of places parts ≡ []
no_places zero parts none = refl
no_places (suc n) parts none = absurd (omega arith)

pub no_parts : (places parts : ℕ) → parts ≤ 0 → decimals_of places parts ≡ []
no_parts zero parts none = refl
no_parts (suc n) zero none = refl
no_parts (suc n) (suc m) none = absurd (omega arith)

pub next_decimal : (places parts : ℕ) → 0 < places → 0 < parts
    → decimals_of places parts ≡ (48 + parts * 10 / one) ∷ decimals_of (places - 1) (parts * 10 % one)
next_decimal zero parts some more = absurd (omega arith)
next_decimal (suc n) parts some more =
    let e : suc n - 1 ≡ n = omega arith in
    let no : (parts == 0) ≡ false = grind (arith, nat_tests) in
    let rest : List ℕ = (48 + parts * 10 / one) ∷ decimals_of n (parts * 10 % one) in
    ap (λ b. if b then [] else rest) no ∙ ap (λ k. (48 + parts * 10 / one) ∷ decimals_of k (parts * 10 % one)) (sym e)

-- the whole part of a number has ten digits at most
pub whole_digits : (n : ℕ) → n < 10000000000 → length (decimal n) ≤ 10
whole_digits n h = length-decimal-le 10 n (omega arith) h (omega arith)
