-- A number before a blank is cut as it is spelled.
use Rattle.std.proofs.Common.{◌≡◌, ◌≢◌, ℕ, ◌+◌, ◌*◌, ◌/◌, ◌%◌, ◌^◌, ◌<◌, ◌≤◌, Bool, true, false, cond}
use Rattle.std.proofs.Common.{◌==◌, List, [], ◌∷◌, ◌++◌, length, drop, take_while, Ok, Err, refl, ap, sym}
use Rattle.std.proofs.Common.{subst, ◌∙◌, arith, ◌⊎◌, inl, inr, append_assoc, length-append}
use Rattle.std.specs.Prelude.{ℤ, pos, slice_index, nat_le}
use Rattle.std.specs.Char.{is_ascii_digit}
use Rattle.std.specs.Fmt.{decimal}
use Rattle.std.specs.Str.Parse.{IsNumeral, digits_value}
use Rattle.std.proofs.Math.Seq.{take-append_seam, drop-append_seam, drop-append-add}
use Rattle.std.proofs.lemmas.Bool.{cases_eq, ne_eqb}
use Rattle.std.proofs.lemmas.Bool.Decides.{nat_tests}
use Rattle.std.proofs.lemmas.Fmt.{decimal_is_IsNumeral}
use Rattle.std.proofs.lemmas.List.{get_or-append-add, append-nil}
use Rattle.std.proofs.lemmas.Nat.{div-mul-add}
use Rattle.scad_num.specs.declared.fault.NumFault.TheVariants.{Range}
use Rattle.scad_num.specs.Literal.{digits_len, has_point, whole_digits, decimal_digits, mantissa_len, exponent_len}
use Rattle.scad_num.specs.Literal.{tens_up, tens_down, literal_len, literal_millionths, literal_number}
use Rattle.scad_num.specs.Number.{one, most, number_of}
use Rattle.scad_num.specs.Rounding.{half_up}
use Rattle.scad_num.specs.Text.{decimals_of, fraction_text, size_text, number_text}
use Rattle.scad_num.proofs.Scale.{digits_value-append}
use Rattle.scad_lex.specs.declared.token.TokenKind.TheVariants.{Number}
use Rattle.scad_lex.specs.declared.front.Front.TheVariants.{Cut}
use Rattle.scad_lex.specs.Front.{front_of, numeral_of}
use Rattle.scad_lex.specs.Spelling.{blank_behind}
use Rattle.scad_lex.proofs.Fronts.{front_number}
use Rattle.scad_lex.proofs.Decimals.{AreDigits, digits_len-before, take_digits, are_digits, end_in_six, decimals_are}
use Rattle.scad_lex.proofs.Decimals.{decimals_value}
use Rattle.scad_num.proofs.Caps.{ten_pow_pos}

-- ---- what may stand behind a number
record Ends (more : List ℕ) : Type 0 where
  digit : digits_len more ≡ 0
  point : (slice_index more 0 == 46) ≡ false
  exponent : exponent_len more ≡ 0

ends_blank : (b : Bool) (rest : List ℕ) → Ends (blank_behind b ∷ rest)
unfolding exponent_len
ends_blank true rest = record { digit = refl; point = refl; exponent = refl }
ends_blank false rest = record { digit = refl; point = refl; exponent = refl }

ends_nothing : Ends []
unfolding exponent_len
ends_nothing = record { digit = refl; point = refl; exponent = refl }

-- ---- the length of a mantissa
abbrev mantissa_by : ℕ → Bool → ℕ → ℕ
mantissa_by whole point decimals = cond (whole + decimals == 0) 0 (cond point (whole + 1 + decimals) whole)

mantissa-by : (bytes : List ℕ) →
    mantissa_len bytes ≡ mantissa_by (digits_len bytes) (has_point bytes) (length (decimal_digits bytes))
unfolding mantissa_len
mantissa-by bytes = refl

some_whole : (whole decimals : ℕ) (point : Bool) → 0 < whole →
    mantissa_by whole point decimals ≡ cond point (whole + 1 + decimals) whole
some_whole whole decimals point h = ap (λ t. cond t 0 (cond point (whole + 1 + decimals) whole)) none
  where
    none : (whole + decimals == 0) ≡ false
    none = grind (arith, nat_tests)

literal_by : (text more : List ℕ) → 0 < length text → mantissa_len (text ++ more) ≡ length text →
    exponent_len more ≡ 0 → literal_len (text ++ more) ≡ length text
unfolding literal_len
literal_by text more some mantissa none =
    ap (λ m. cond (m == 0) 0 (m + exponent_len (drop m (text ++ more)))) mantissa
    ∙ ap (λ t. cond t 0 (length text + exponent_len (drop (length text) (text ++ more)))) not_empty
    ∙ ap (λ t. length text + exponent_len t) (drop-append_seam text more)
    ∙ ap (λ n. length text + n) none
    ∙ omega arith
  where
    not_empty : (length text == 0) ≡ false
    not_empty = grind (arith, nat_tests)

-- ---- a number without and with decimals
module _ (whole more : List ℕ) (are : AreDigits whole) (some : 0 < length whole) (ends : Ends more) where
  whole_len : digits_len (whole ++ more) ≡ length whole
  whole_len = digits_len-before whole more are ends.digit

  whole_point : has_point (whole ++ more) ≡ false
  whole_point =
      ap (λ n. slice_index (whole ++ more) n == 46)
      (let e : digits_len (whole ++ more) ≡ length whole + 0 = omega (arith, whole_len) in e)
      ∙ ap (λ b. b == 46) (get_or-append-add whole more 0 0) ∙ ends.point

  whole_decimals : decimal_digits (whole ++ more) ≡ []
  whole_decimals = ap (λ t. cond t (take_while is_ascii_digit (drop (digits_len (whole ++ more) + 1) (whole ++ more)))
      []) whole_point

  whole_mantissa : mantissa_len (whole ++ more) ≡ length whole
  whole_mantissa =
      mantissa-by (whole ++ more)
      ∙ ap (λ n. mantissa_by n (has_point (whole ++ more)) (length (decimal_digits (whole ++ more)))) whole_len
      ∙ ap (λ t. mantissa_by (length whole) t (length (decimal_digits (whole ++ more)))) whole_point
      ∙ some_whole (length whole) (length (decimal_digits (whole ++ more))) false some

module _ (whole decimals more : List ℕ) (are : AreDigits whole) (some : 0 < length whole) (also : AreDigits decimals)
    (ends : Ends more) where
  split_len : digits_len (whole ++ (46 ∷ decimals ++ more)) ≡ length whole
  split_len = digits_len-before whole (46 ∷ decimals ++ more) are refl

  split_point : has_point (whole ++ (46 ∷ decimals ++ more)) ≡ true
  split_point =
      ap (λ n. slice_index (whole ++ (46 ∷ decimals ++ more)) n == 46)
      (let e : digits_len (whole ++ (46 ∷ decimals ++ more)) ≡ length whole + 0 = omega (arith, split_len) in e)
      ∙ ap (λ b. b == 46) (get_or-append-add whole (46 ∷ decimals ++ more) 0 0)

  split_decimals : decimal_digits (whole ++ (46 ∷ decimals ++ more)) ≡ decimals
  split_decimals =
      ap (λ t. cond t (take_while is_ascii_digit
      (drop (digits_len (whole ++ (46 ∷ decimals ++ more)) + 1) (whole ++ (46 ∷ decimals ++ more)))) [])
      split_point
      ∙ ap (λ n. take_while is_ascii_digit (drop (n + 1) (whole ++ (46 ∷ decimals ++ more)))) split_len
      ∙ ap (take_while is_ascii_digit) (drop-append-add whole (46 ∷ decimals ++ more) 1)
      ∙ take_digits decimals more also ends.digit

  split_mantissa : mantissa_len (whole ++ (46 ∷ decimals ++ more)) ≡ length (whole ++ 46 ∷ decimals)
  split_mantissa =
      mantissa-by (whole ++ (46 ∷ decimals ++ more))
      ∙ ap (λ n. mantissa_by n (has_point (whole ++ (46 ∷ decimals ++ more)))
      (length (decimal_digits (whole ++ (46 ∷ decimals ++ more))))) split_len
      ∙ ap (λ t. mantissa_by (length whole) t (length (decimal_digits (whole ++ (46 ∷ decimals ++ more)))))
      split_point
      ∙ ap (λ ds. mantissa_by (length whole) true (length ds)) split_decimals
      ∙ some_whole (length whole) (length decimals) true some
      ∙ omega (arith, length-append whole (46 ∷ decimals))

-- ---- the value of a literal
half_up-exact : (n d : ℕ) → 0 < d → half_up (n * d) d ≡ n
unfolding half_up
half_up-exact n d h =
    let top : 2 * (n * d) + d ≡ n * (2 * d) + d = omega arith in
    ap (λ t. t / (2 * d)) top ∙ div-mul-add n (2 * d) d (omega arith)

abbrev millionths_by : List ℕ → List ℕ → List ℕ → ℕ
millionths_by whole decimals exponent =
    half_up (digits_value 10 (whole ++ decimals) * 10 ^ (6 + tens_up exponent))
    (10 ^ (length decimals + tens_down exponent))

millionths-by : (text whole decimals : List ℕ) → whole_digits text ≡ whole → decimal_digits text ≡ decimals →
    mantissa_len text ≡ length text
    → literal_millionths text ≡ half_up (digits_value 10 (whole ++ decimals) * 10 ^ 6) (10 ^ length decimals)
unfolding literal_millionths tens_up tens_down
millionths-by text whole decimals is_whole is_decimals all =
    ap (λ w. millionths_by w (decimal_digits text) (drop (mantissa_len text) text)) is_whole
    ∙ ap (λ d. millionths_by whole d (drop (mantissa_len text) text)) is_decimals
    ∙ ap (millionths_by whole decimals) (ap (λ n. drop n text) all ∙ drop_whole text)
    ∙ ap (λ k. half_up (digits_value 10 (whole ++ decimals) * 10 ^ 6) (10 ^ k)) (omega arith)
  where
    drop_whole : (xs : List ℕ) → drop (length xs) xs ≡ []
    drop_whole [] = refl
    drop_whole (x ∷ xs) = drop_whole xs

-- ---- a number
joined_value : (v whole part w p n P : ℕ) → v ≡ whole * P + part → whole ≡ w → part * one ≡ p * P → n ≡ w * one + p →
    v * 10 ^ 6 ≡ n * P
joined_value v whole part w p n P joined is_whole is_part is =
    omega (arith, joined, ap (λ x. x * P) is_whole, is_part, ap (λ x. x * P) is)

value_of : (whole ds : List ℕ) (w p n : ℕ) → digits_value 10 whole ≡ w →
    digits_value 10 ds * one ≡ p * 10 ^ length ds → n ≡ w * one + p
    → half_up (digits_value 10 (whole ++ ds) * 10 ^ 6) (10 ^ length ds) ≡ n
value_of whole ds w p n is_whole is_part is =
    ap (λ x. half_up x (10 ^ length ds))
    (joined_value (digits_value 10 (whole ++ ds)) (digits_value 10 whole) (digits_value 10 ds) w p n (10 ^ length ds)
    (digits_value-append whole ds) is_whole is_part is)
    ∙ half_up-exact n (10 ^ length ds) (ten_pow_pos (length ds))

number_small : (n : ℕ) → n ≤ most → number_of (pos n) ≡ Ok (pos n)
unfolding number_of
number_small n small =
    let fits : nat_le n most ≡ true = grind (arith, nat_tests) in
    ap (λ t. cond t (Ok (pos n)) (Err Range)) fits

first_digit : (whole more : List ℕ) → AreDigits whole → 0 < length whole → 48 ≤ slice_index (whole ++ more) 0
first_digit [] more are some = absurd (omega (arith, some))
first_digit (c ∷ cs) more (digit, are) some = grind (arith, nat_tests)

cut_number : (text more : List ℕ) (n : ℕ) → 0 < length text → 48 ≤ slice_index text 0 →
    literal_len (text ++ more) ≡ length text → literal_millionths text ≡ n → n ≤ most
    → front_of (text ++ more) ≡ Cut (Number (pos n)) (length text)
unfolding numeral_of
cut_number [] more n some low literal value small = absurd (omega (arith, some))
cut_number (c ∷ cs) more n some low literal value small =
    front_number c (cs ++ more) (length cs) low literal
    ∙ ap (λ t. numeral_of t (literal_number t)) (take-append_seam (c ∷ cs) more)
    ∙ ap (numeral_of (c ∷ cs)) (ap (λ m. number_of (pos m)) value ∙ number_small n small)

whole_front : (whole more : List ℕ) (n : ℕ) → AreDigits whole → 0 < length whole → Ends more →
    digits_value 10 whole * one ≡ n → n ≤ most
    → front_of (whole ++ more) ≡ Cut (Number (pos n)) (length whole)
whole_front whole more n are some ends value small =
    let same : whole ≡ whole ++ [] = sym (append-nil whole) in
    cut_number whole more n some
    (subst (λ t. 48 ≤ slice_index t 0) (append-nil whole) (first_digit whole [] are some))
    (literal_by whole more some (whole_mantissa whole more are some ends) ends.exponent)
    (millionths-by whole whole [] (ap whole_digits same ∙ take_digits whole [] are refl)
    (ap decimal_digits same ∙ whole_decimals whole [] are some ends_nothing)
    (ap mantissa_len same ∙ whole_mantissa whole [] are some ends_nothing)
    ∙ value_of whole [] (digits_value 10 whole) 0 n refl refl (omega (arith, value)))
    small

split_front : (whole ds more : List ℕ) (w p n : ℕ) → AreDigits whole → 0 < length whole → AreDigits ds → Ends more
    → digits_value 10 whole ≡ w → digits_value 10 ds * one ≡ p * 10 ^ length ds → n ≡ w * one + p → n ≤ most
    → front_of ((whole ++ 46 ∷ ds) ++ more) ≡ Cut (Number (pos n)) (length (whole ++ 46 ∷ ds))
split_front whole ds more w p n are some also ends is_whole is_part is small =
    let same : whole ++ 46 ∷ ds ≡ whole ++ (46 ∷ ds ++ []) = ap (λ t. whole ++ 46 ∷ t) (sym (append-nil ds)) in
    let longer : 0 < length (whole ++ 46 ∷ ds) = omega (arith, length-append whole (46 ∷ ds)) in
    cut_number (whole ++ 46 ∷ ds) more n longer (first_digit whole (46 ∷ ds) are some)
    (literal_by (whole ++ 46 ∷ ds) more longer
    (ap mantissa_len (append_assoc whole (46 ∷ ds) more) ∙ split_mantissa whole ds more are some also ends)
    ends.exponent)
    (millionths-by (whole ++ 46 ∷ ds) whole ds (take_digits whole (46 ∷ ds) are refl)
    (ap decimal_digits same ∙ split_decimals whole ds [] are some also ends_nothing)
    (ap mantissa_len same ∙ split_mantissa whole ds [] are some also ends_nothing)
    ∙ value_of whole ds w p n is_whole is_part is)
    small

size_front : (n : ℕ) (more : List ℕ) → n ≤ most → Ends more →
    front_of (size_text n ++ more) ≡ Cut (Number (pos n)) (length (size_text n))
size_front n more small ends = by_part (cases_eq p 0)
  where
    w : ℕ
    w = n / one

    p : ℕ
    p = n % one

    numeral : IsNumeral 10 (decimal w) × (digits_value 10 (decimal w) ≡ w)
    numeral = decimal_is_IsNumeral w (omega arith)

    are : AreDigits (decimal w)
    are = are_digits (decimal w) numeral.0.1

    by_part : (p ≡ 0) ⊎ (p ≢ 0) → front_of (size_text n ++ more) ≡ Cut (Number (pos n)) (length (size_text n))
    by_part (inl e) =
        subst (λ t. front_of (t ++ more) ≡ Cut (Number (pos n)) (length t))
        (sym (ap (λ q. decimal w ++ fraction_text q) e ∙ append-nil (decimal w)))
        (whole_front (decimal w) more n are numeral.0.0 ends (ap (λ x. x * one) numeral.1 ∙ omega (arith, e)) small)
    by_part (inr ne) =
        subst (λ t. front_of (t ++ more) ≡ Cut (Number (pos n)) (length t))
        (sym (ap (λ t. decimal w ++ cond t [] (46 ∷ decimals_of 6 p)) (ne_eqb p 0 ne)))
        (split_front (decimal w) (decimals_of 6 p) more w p n are numeral.0.0 (decimals_are 6 p (omega arith)) ends
        numeral.1 (decimals_value 6 p (omega arith) (end_in_six p)) (omega arith) small)

pub number_front : (z : ℤ) (n : ℕ) (b : Bool) (rest : List ℕ) → z ≡ pos n → n ≤ most
    → front_of (number_text z ++ blank_behind b ∷ rest) ≡ Cut (Number z) (length (number_text z))
number_front z n b rest is small =
    subst (λ z. front_of (number_text z ++ blank_behind b ∷ rest) ≡ Cut (Number z) (length (number_text z))) (sym is)
    (size_front n (blank_behind b ∷ rest) small (ends_blank b rest))
