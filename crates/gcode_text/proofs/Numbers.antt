-- Numbers that are cut at a cap, and that a number past it is refused all the same.
use Rattle.std.proofs.Common.{◌≡◌, ℕ, zero, suc, ◌*◌, ◌^◌, ◌<◌, ◌≤◌, min, Bool, true, false, List, [], ◌∷◌, refl, ap, ◌∙◌, arith, ◌⊎◌, inl, inr, Option, Some, None}
use Rattle.std.specs.Prelude.{ℤ, pos, negsuc, neg_ℤ, unsigned_abs, ◌&&◌, IsTrue}
use Rattle.std.specs.Option.{option_map}
use Rattle.std.specs.Char.{is_ascii_digit}
use Rattle.std.specs.List.{list_all}
use Rattle.std.specs.Str.Parse.{AllDigits, digits_value_after}
use Rattle.std.proofs.lemmas.Bool.{cases_lt}
use Rattle.std.proofs.lemmas.Bool.Decides.{nat_tests}
use Rattle.scad_num.proofs.Caps.{min-mul, ten_pow_pos}
use Rattle.scad_num.proofs.Digits.{min-digits_value_after, digit_value-lt}
use Rattle.gcode_text.specs.declared.letters.Given.{Given}
use Rattle.gcode_text.specs.Cap.{cap, capped, capped_number}
use Rattle.gcode_text.specs.Reading.{negative, are_digits}
use Rattle.gcode_text.specs.Machine.{limited, with_number, ranged}
use Rattle.scad_base.proofs.Integers.{unsigned_abs-neg}

-- ---- digits

pub AllDigits-from_test : (ds : List ℕ) → list_all is_ascii_digit ds ≡ true → AllDigits 10 ds
AllDigits-from_test [] h = tt
AllDigits-from_test (c ∷ cs) h = both (is_ascii_digit c) refl h (AllDigits-from_test cs)
  where
    both : (b : Bool) → is_ascii_digit c ≡ b → (b && list_all is_ascii_digit cs) ≡ true
        → (list_all is_ascii_digit cs ≡ true → AllDigits 10 cs) → AllDigits 10 (c ∷ cs)
    both true e g rest = (digit_value-lt c e, rest g)
    both false e g rest = absurd (cc)

pub AllDigits-from_are : (ds : List ℕ) → are_digits ds ≡ true → AllDigits 10 ds
unfolding are_digits
AllDigits-from_are ds h = AllDigits-from_test ds (grind (arith, nat_tests))

-- ---- sizes

pub whole_capped : (n places : ℕ) → min (min n cap * 10 ^ places) cap ≡ min (n * 10 ^ places) cap
whole_capped n places = min-mul cap n (10 ^ places) (ten_pow_pos places)

pub pointed_capped : (n places : ℕ) (decimals : List ℕ) →
    min (min (digits_value_after 10 (min n cap) decimals) cap * 10 ^ places) cap
    ≡ min (digits_value_after 10 n decimals * 10 ^ places) cap
pointed_capped n places decimals =
    ap (λ (m : ℕ). min (m * 10 ^ places) cap) (min-digits_value_after cap n decimals) ∙ whole_capped
    (digits_value_after 10 n decimals) places

pub ruleset sizes = (whole_capped, pointed_capped)

-- ---- signs

capped_negative : (n : ℕ) → negative (min n cap) ≡ capped_number (negative n)
capped_negative zero = refl
capped_negative (suc n) = refl

pub negative_sizes : (size : Option ℕ) → option_map negative (option_map capped size) ≡ option_map capped_number
    (option_map negative size)
negative_sizes None = refl
negative_sizes (Some n) = ap Some (capped_negative n)

pub positive_sizes : (size : Option ℕ) → option_map pos (option_map capped size) ≡ option_map capped_number
    (option_map pos size)
positive_sizes None = refl
positive_sizes (Some n) = refl

pub ruleset signs = (negative_sizes, positive_sizes)

-- ---- ranges

capped_within : (z : ℤ) → unsigned_abs z ≤ cap → capped_number z ≡ z
capped_within (pos n) h = let e : min n cap ≡ n = omega arith in ap pos e
capped_within (negsuc n) h = let e : min (suc n) cap ≡ suc n = omega arith in ap (λ (m : ℕ). neg_ℤ (pos m)) e

capped_past : (z : ℤ) → cap < unsigned_abs z → unsigned_abs (capped_number z) ≡ cap
capped_past (pos n) h = omega arith
capped_past (negsuc n) h = unsigned_abs-neg (pos (min (suc n) cap)) ∙ omega arith

past : (n letter : ℕ) (given : Given) (y z : ℤ) → cap < unsigned_abs z → unsigned_abs y ≡ cap →
    ranged limited n letter given (Some y) ≡ ranged limited n letter given (Some z)
unfolding limited with_number
past n letter given y z h e = grind (arith, nat_tests)

pub zero_is_limited : (letter : ℕ) → IsTrue (limited letter (pos 0))
unfolding limited
zero_is_limited letter = grind (arith, nat_tests)

pub ranges : (n letter : ℕ) (given : Given) (number : Option ℤ) →
    ranged limited n letter given (option_map capped_number number) ≡ ranged limited n letter given number
ranges n letter given None = refl
ranges n letter given (Some z) = by_size (cases_lt cap (unsigned_abs z))
  where
    by_size : (cap < unsigned_abs z) ⊎ (unsigned_abs z ≤ cap) → ranged limited n letter given (Some (capped_number z))
        ≡ ranged limited n letter given (Some z)
    by_size (inl h) = past n letter given (capped_number z) z h (capped_past z h)
    by_size (inr h) = ap (λ (y : ℤ). ranged limited n letter given (Some y)) (capped_within z h)
