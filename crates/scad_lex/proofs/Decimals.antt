-- Runs of digits, and the decimals that a number is spelled with.
use Rattle.std.proofs.Common.{◌≡◌, ◌≢◌, ℕ, zero, suc, ◌+◌, ◌*◌, ◌/◌, ◌%◌, ◌^◌, ◌<◌, Bool, true, false, cond}
use Rattle.std.proofs.Common.{◌==◌, List, [], ◌∷◌, ◌++◌, length, take, take_while, refl, ap, sym}
use Rattle.std.proofs.Common.{subst, ◌∙◌, arith, ◌⊎◌, inl, inr}
use Rattle.std.specs.Char.{is_ascii_digit, digit_value}
use Rattle.std.specs.Str.Parse.{AllDigits, digits_value, digits_value_after}
use Rattle.std.proofs.Math.Seq.{take-append_seam}
use Rattle.std.proofs.Math.Nat.{pow-suc}
use Rattle.std.proofs.lemmas.Bool.{cases_eq, ne_eqb}
use Rattle.std.proofs.lemmas.Bool.Decides.{nat_tests}
use Rattle.std.proofs.lemmas.Str.Parse.{digit_at}
use Rattle.scad_num.specs.Literal.{digits_len}
use Rattle.scad_num.specs.Number.{one}
use Rattle.scad_num.specs.Text.{decimals_of}
use Rattle.scad_num.proofs.Digits.{digit_value-decimal}
use Rattle.scad_num.proofs.Scale.{digits_value_after-split}

abbrev pub AreDigits : List ℕ → Type 0
AreDigits [] = Unit {0}
AreDigits (c ∷ cs) = (is_ascii_digit c ≡ true) × AreDigits cs

pub digits_len-before : (ds more : List ℕ) → AreDigits ds → digits_len more ≡ 0 → digits_len (ds ++ more) ≡ length ds
digits_len-before [] more are ends = ends
digits_len-before (c ∷ cs) more (digit, are) ends =
    ap (λ t. cond t (1 + digits_len (cs ++ more)) 0) digit ∙ omega (arith, digits_len-before cs more are ends)

pub take_digits : (ds more : List ℕ) → AreDigits ds → digits_len more ≡ 0 →
    take_while is_ascii_digit (ds ++ more) ≡ ds
take_digits ds more are ends = ap (λ n. take n (ds ++ more)) (digits_len-before ds more are ends)
    ∙ take-append_seam ds more

pub is_digit : (c : ℕ) → digit_value c < 10 → is_ascii_digit c ≡ true
is_digit c h = grind (arith, nat_tests, digit_at (c ∷ []) 0 (h, tt) (omega arith))

pub are_digits : (ds : List ℕ) → AllDigits 10 ds → AreDigits ds
are_digits [] all = tt
are_digits (c ∷ cs) (h, all) = (is_digit c h, are_digits cs all)

-- ---- decimals
-- no more than so many decimals stand behind the point
abbrev pub EndIn : ℕ → ℕ → Type 0
EndIn zero parts = parts ≡ 0
EndIn (suc k) parts = EndIn k (parts * 10 % one)

pub end_in_six : (parts : ℕ) → EndIn 6 parts
end_in_six parts = omega arith

pub decimals_are : (k parts : ℕ) → parts < one → AreDigits (decimals_of k parts)
decimals_are zero parts below = tt
decimals_are (suc k) parts below = by_end (parts == 0) (decimals_are k (parts * 10 % one) (omega arith))
  where
    digit : is_ascii_digit (48 + parts * 10 / one) ≡ true
    digit = let small : parts * 10 / one < 10 = omega arith in grind (arith, nat_tests)

    by_end : (t : Bool) → AreDigits (decimals_of k (parts * 10 % one)) →
        AreDigits (cond t [] ((48 + parts * 10 / one) ∷ decimals_of k (parts * 10 % one)))
    by_end true later = tt
    by_end false later = (digit, later)

next_value : (d r parts : ℕ) (ds : List ℕ) → d < 10 → parts * 10 ≡ d * one + r →
    digits_value 10 ds * one ≡ r * 10 ^ length ds
    → digits_value 10 ((48 + d) ∷ ds) * one ≡ parts * 10 ^ length ((48 + d) ∷ ds)
next_value d r parts ds small is later =
    let digit : digit_value (48 + d) ≡ d = digit_value-decimal (48 + d) (omega arith) (omega arith) ∙ omega arith in
    let front : 0 * 10 + digit_value (48 + d) ≡ d = omega (arith, digit) in
    let value : digits_value 10 ((48 + d) ∷ ds) ≡ d * 10 ^ length ds + digits_value 10 ds =
    ap (λ n. digits_value_after 10 n ds) front ∙ digits_value_after-split d ds in
    omega (arith, value, ap (λ x. x * 10 ^ length ds) is, later, ap (λ x. parts * x) (pow-suc 10 (length ds)))

pub decimals_value : (k parts : ℕ) → parts < one → EndIn k parts →
    digits_value 10 (decimals_of k parts) * one ≡ parts * 10 ^ length (decimals_of k parts)
decimals_value zero parts below end = omega (arith, end)
decimals_value (suc k) parts below end =
    by_end (cases_eq parts 0) (decimals_value k (parts * 10 % one) (omega arith) end)
  where
    d : ℕ
    d = parts * 10 / one

    r : ℕ
    r = parts * 10 % one

    by_end : (parts ≡ 0) ⊎ (parts ≢ 0) → digits_value 10 (decimals_of k r) * one ≡ r * 10 ^ length (decimals_of k r)
        → digits_value 10 (decimals_of (suc k) parts) * one ≡ parts * 10 ^ length (decimals_of (suc k) parts)
    by_end (inl e) later =
        subst (λ p. digits_value 10 (decimals_of (suc k) p) * one ≡ p * 10 ^ length (decimals_of (suc k) p))
        (sym e) refl
    by_end (inr ne) later =
        subst (λ ds. digits_value 10 ds * one ≡ parts * 10 ^ length ds)
        (sym (ap (λ t. cond t [] ((48 + d) ∷ decimals_of k r)) (ne_eqb parts 0 ne)))
        (next_value d r parts (decimals_of k r) (omega arith) (omega arith) later)
