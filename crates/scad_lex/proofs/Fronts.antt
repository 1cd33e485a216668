-- What stands at the front of a text by its first bytes.
use Rattle.std.proofs.Common.{◌≡◌, ℕ, suc, ◌+◌, ◌≤◌, Bool, true, false, cond, ◌&&◌, ◌||◌, ◌==◌, List, [], ◌∷◌, length, take}
use Rattle.std.proofs.Common.{drop, take_while, ap, ◌∙◌, arith}
use Rattle.std.specs.Prelude.{slice_index, nat_lt}
use Rattle.std.specs.Char.{is_ascii_digit}
use Rattle.std.specs.List.{prefix_len}
use Rattle.std.proofs.lemmas.Bool.Decides.{nat_tests}
use Rattle.scad_num.specs.Literal.{mantissa_len, exponent_len, literal_len, literal_number}
use Rattle.scad_lex.specs.declared.front.Front.{Front}
use Rattle.scad_lex.specs.declared.front.Front.TheVariants.{Gap}
use Rattle.scad_lex.specs.declared.gap.Class.TheVariants.{Blank, WithinLine}
use Rattle.scad_lex.specs.Gap.{is_blank, closed_len}
use Rattle.scad_lex.specs.Classes.{is_of}
use Rattle.scad_lex.specs.Front.{front_of, comment_of, string_of, numeral_of, word_of, sign_of}
use Rattle.scad_lex.specs.Keys.{key_of}
use Rattle.scad_lex.specs.StringLiteral.{quoted}
use Rattle.scad_lex.specs.Signs.{two_byte_sign, one_byte_sign}
use Rattle.scad_lex.specs.Words.{word_len, begins_word}

-- neither a digit nor a point begins a number
no_mantissa : (c : ℕ) (rest : List ℕ) → is_ascii_digit c ≡ false → (c == 46) ≡ false → mantissa_len (c ∷ rest) ≡ 0
unfolding mantissa_len
no_mantissa c rest digit point =
    ap (λ m. by m (slice_index (c ∷ rest) m == 46)) (ap (λ t. cond t (1 + prefix_len is_ascii_digit rest) 0) digit)
    ∙ ap (by 0) point
  where
    by : ℕ → Bool → ℕ
    by whole t =
        let decimals = length (cond t (take_while is_ascii_digit (drop (whole + 1) (c ∷ rest))) []) in
        cond (whole + decimals == 0) 0 (cond t (whole + 1 + decimals) whole)

pub no_literal : (c : ℕ) (rest : List ℕ) → is_ascii_digit c ≡ false → (c == 46) ≡ false → literal_len (c ∷ rest) ≡ 0
unfolding literal_len
no_literal c rest digit point =
    ap (λ m. cond (m == 0) 0 (m + exponent_len (drop m (c ∷ rest)))) (no_mantissa c rest digit point)

-- the front by the tests of the first byte, and by the length of the literal and of the name there
abbrev pub front_by : List ℕ → Bool → Bool → Bool → ℕ → ℕ → Front
front_by bytes blank slash quote literal word =
    let a = slice_index bytes 0 in
    let b = slice_index bytes 1 in
    cond blank (Gap (prefix_len (is_of Blank) bytes))
    (cond (slash && b == 47) (Gap (prefix_len (is_of WithinLine) bytes))
    (cond (slash && b == 42) (comment_of (closed_len (drop 2 bytes)))
    (cond quote (string_of (quoted (drop 1 bytes)))
    (cond (nat_lt 0 literal) (numeral_of (take literal bytes) (literal_number (take literal bytes)))
    (cond (nat_lt 0 word) (word_of (take word bytes) (key_of (take word bytes)))
    (sign_of (two_byte_sign a b) (one_byte_sign a)))))))

-- no blank, slash or quote
pub record IsPlain (c : ℕ) : Type 0 where
  pub blank : is_blank c ≡ false
  pub slash : (c == 47) ≡ false
  pub quote : (c == 34) ≡ false

pub front_plain : (c : ℕ) (rest : List ℕ) → IsPlain c →
    front_of (c ∷ rest) ≡ front_by (c ∷ rest) false false false (literal_len (c ∷ rest)) (word_len (c ∷ rest))
unfolding front_of
front_plain c rest plain =
    ap (λ t. front_by (c ∷ rest) t (c == 47) (c == 34) (literal_len (c ∷ rest)) (word_len (c ∷ rest))) plain.blank
    ∙ ap (λ t. front_by (c ∷ rest) false t (c == 34) (literal_len (c ∷ rest)) (word_len (c ∷ rest))) plain.slash
    ∙ ap (λ t. front_by (c ∷ rest) false false t (literal_len (c ∷ rest)) (word_len (c ∷ rest))) plain.quote

-- what a name begins with
pub name_plain : (c : ℕ) → (c == 36 || begins_word c) ≡ true → IsPlain c × (is_ascii_digit c ≡ false)
    × ((c == 46) ≡ false)
name_plain c h = (
  record { blank = grind (arith, nat_tests); slash = grind (arith, nat_tests); quote = grind (arith, nat_tests) },
  grind (arith, nat_tests),
  grind (arith, nat_tests),
)

is_plain : (c : ℕ) → 48 ≤ c → IsPlain c
is_plain c low = record
    { blank = grind (arith, nat_tests); slash = grind (arith, nat_tests); quote = grind (arith, nat_tests) }

above : (n : ℕ) → nat_lt 0 (suc n) ≡ true
above n = grind (arith, nat_tests)

pub given : (t : Bool) (x y : Front) → t ≡ true → cond t x y ≡ x
given t x y h = ap (λ t. cond t x y) h

pub front_number : (c : ℕ) (rest : List ℕ) (n : ℕ) → 48 ≤ c → literal_len (c ∷ rest) ≡ suc n
    → front_of (c ∷ rest) ≡ numeral_of (take (suc n) (c ∷ rest)) (literal_number (take (suc n) (c ∷ rest)))
front_number c rest n low literal =
    front_plain c rest (is_plain c low)
    ∙ ap (λ l. front_by (c ∷ rest) false false false l (word_len (c ∷ rest))) literal
    ∙ given (nat_lt 0 (suc n)) (numeral_of (take (suc n) (c ∷ rest)) (literal_number (take (suc n) (c ∷ rest)))) _
    (above n)

pub front_word : (c : ℕ) (rest : List ℕ) (n : ℕ) → IsPlain c → is_ascii_digit c ≡ false → (c == 46) ≡ false →
    word_len (c ∷ rest) ≡ suc n
    → front_of (c ∷ rest) ≡ word_of (take (suc n) (c ∷ rest)) (key_of (take (suc n) (c ∷ rest)))
front_word c rest n plain digit point word =
    front_plain c rest plain
    ∙ ap (λ l. front_by (c ∷ rest) false false false l (word_len (c ∷ rest))) (no_literal c rest digit point)
    ∙ ap (λ w. front_by (c ∷ rest) false false false 0 w) word
    ∙ given (nat_lt 0 (suc n)) (word_of (take (suc n) (c ∷ rest)) (key_of (take (suc n) (c ∷ rest)))) _ (above n)
