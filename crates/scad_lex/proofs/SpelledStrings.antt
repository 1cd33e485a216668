-- A string before a blank is cut as it is spelled.
use Rattle.std.proofs.Common.{◌≡◌, ◌≢◌, ℕ, suc, ◌+◌, ◌-◌, ◌*◌, ◌/◌, ◌%◌, ◌<◌, ◌≤◌, Bool, true, false, cond, ◌==◌}
use Rattle.std.proofs.Common.{◌&&◌, List, [], ◌∷◌, ◌++◌, length, Option, Some, None, refl, ap, sym, subst, ◌∙◌, arith}
use Rattle.std.proofs.Common.{◌⊎◌, inl, inr, append_assoc, length-append}
use Rattle.std.specs.Prelude.{slice_index, option_and_then, nat_lt, nat_le}
use Rattle.std.specs.Char.{encode_utf8}
use Rattle.std.specs.Int.{is_in_range}
use Rattle.std.specs.List.{flat_map}
use Rattle.std.proofs.Math.Seq.{drop-append_seam}
use Rattle.std.proofs.lemmas.Bool.{cases_lt, cases_eq, ne_eqb}
use Rattle.std.proofs.lemmas.Bool.Decides.{nat_tests}
use Rattle.std.proofs.lemmas.Str.{encode_ascii}
use Rattle.scad_lex.specs.declared.token.TokenKind.TheVariants.{Str}
use Rattle.scad_lex.specs.declared.front.Front.TheVariants.{Cut}
use Rattle.scad_lex.specs.declared.string_body.Quoted.TheVariants.{Closed}
use Rattle.scad_lex.specs.Character.{is_scalar, tail_at, two_tails_at, form_of, two_bytes, three_bytes, four_bytes}
use Rattle.scad_lex.specs.Character.{character_at}
use Rattle.scad_lex.specs.Escape.{escape_at}
use Rattle.scad_lex.specs.StringLiteral.{element_at, behind, quoted_from}
use Rattle.scad_lex.specs.Front.{front_of, string_of}
use Rattle.scad_lex.specs.Spelling.{character_spelling, AreScalars, blank_behind}
use Rattle.scad_lex.proofs.Quotes.{quoted_from-element, quoted_from-closed}

-- ---- the bytes of a character
abbrev by_size : (c : ℕ) → Bool → Bool → Bool → List ℕ
by_size c one two three =
    cond one (c ∷ []) (cond two ((192 + c / 64) ∷ (128 + c % 64) ∷ [])
    (cond three ((224 + c / 4096) ∷ (128 + c / 64 % 64) ∷ (128 + c % 64) ∷ [])
    ((240 + c / 262144) ∷ (128 + c / 4096 % 64) ∷ (128 + c / 64 % 64) ∷ (128 + c % 64) ∷ [])))

encode_two : (c : ℕ) → 128 ≤ c → c < 2048 → encode_utf8 c ≡ (192 + c / 64) ∷ (128 + c % 64) ∷ []
unfolding encode_utf8
encode_two c low high =
    let one : nat_lt c 128 ≡ false = grind (arith, nat_tests) in
    let two : nat_lt c 2048 ≡ true = grind (arith, nat_tests) in
    ap (λ t. by_size c t (nat_lt c 2048) (nat_lt c 65536)) one ∙ ap (λ t. by_size c false t (nat_lt c 65536)) two

encode_three : (c : ℕ) → 2048 ≤ c → c < 65536 →
    encode_utf8 c ≡ (224 + c / 4096) ∷ (128 + c / 64 % 64) ∷ (128 + c % 64) ∷ []
unfolding encode_utf8
encode_three c low high =
    let one : nat_lt c 128 ≡ false = grind (arith, nat_tests) in
    let two : nat_lt c 2048 ≡ false = grind (arith, nat_tests) in
    let three : nat_lt c 65536 ≡ true = grind (arith, nat_tests) in
    ap (λ t. by_size c t (nat_lt c 2048) (nat_lt c 65536)) one ∙ ap (λ t. by_size c false t (nat_lt c 65536)) two
    ∙ ap (by_size c false false) three

encode_four : (c : ℕ) → 65536 ≤ c →
    encode_utf8 c ≡ (240 + c / 262144) ∷ (128 + c / 4096 % 64) ∷ (128 + c / 64 % 64) ∷ (128 + c % 64) ∷ []
unfolding encode_utf8
encode_four c low =
    let one : nat_lt c 128 ≡ false = grind (arith, nat_tests) in
    let two : nat_lt c 2048 ≡ false = grind (arith, nat_tests) in
    let three : nat_lt c 65536 ≡ false = grind (arith, nat_tests) in
    ap (λ t. by_size c t (nat_lt c 2048) (nat_lt c 65536)) one ∙ ap (λ t. by_size c false t (nat_lt c 65536)) two
    ∙ ap (by_size c false false) three

-- ---- and back
tail_is : (bytes : List ℕ) (k n : ℕ) → slice_index bytes k ≡ 128 + n → n < 64 → tail_at bytes k ≡ Some n
unfolding tail_at
tail_is bytes k n is small =
    let fits : is_in_range 0x80 0xBF (128 + n) ≡ true = grind (arith, nat_tests) in
    let same : 128 + n - 0x80 ≡ n = omega arith in
    ap (λ b. cond (is_in_range 0x80 0xBF b) (Some (b - 0x80)) None) is
    ∙ ap (λ t. cond t (Some (128 + n - 0x80)) None) fits ∙ ap Some same

two_tails_are : (bytes : List ℕ) (k high low : ℕ) → tail_at bytes k ≡ Some high → tail_at bytes (k + 1) ≡ Some low →
    two_tails_at bytes k ≡ Some (high * 64 + low)
unfolding two_tails_at
two_tails_are bytes k high low first second =
    ap (option_and_then (λ high. option_and_then (λ low. Some (high * 64 + low)) (tail_at bytes (k + 1)))) first
    ∙ ap (option_and_then (λ low. Some (high * 64 + low))) second

form_is : (least n c d : ℕ) → d ≡ c → least ≤ c → is_scalar c ≡ true → form_of least n d ≡ Some (c, n)
unfolding form_of
form_is least n c d same low scalar =
    let enough : nat_le least c ≡ true = grind (arith, nat_tests) in
    ap (form_of least n) same
    ∙ ap (λ t. cond (t && is_scalar c) (Some (c, n)) None) enough
    ∙ ap (λ t. cond t (Some (c, n)) None) scalar

abbrev by_lead : List ℕ → Bool → Bool → Bool → Bool → Bool → Option (ℕ × ℕ)
by_lead bytes one none two three four =
    cond one (Some (slice_index bytes 0, 1))
    (cond none None (cond two (two_bytes bytes)
    (cond three (three_bytes bytes) (cond four (four_bytes bytes) None))))

lead_two : (b : ℕ) (bytes : List ℕ) → 0xC0 ≤ b → b < 0xE0 → character_at (b ∷ bytes) ≡ two_bytes (b ∷ bytes)
unfolding character_at
lead_two b bytes low high =
    let one : nat_lt b 0x80 ≡ false = grind (arith, nat_tests) in
    let none : nat_lt b 0xC0 ≡ false = grind (arith, nat_tests) in
    let two : nat_lt b 0xE0 ≡ true = grind (arith, nat_tests) in
    ap (λ t. by_lead (b ∷ bytes) t (nat_lt b 0xC0) (nat_lt b 0xE0) (nat_lt b 0xF0) (nat_lt b 0xF8)) one
    ∙ ap (λ t. by_lead (b ∷ bytes) false t (nat_lt b 0xE0) (nat_lt b 0xF0) (nat_lt b 0xF8)) none
    ∙ ap (λ t. by_lead (b ∷ bytes) false false t (nat_lt b 0xF0) (nat_lt b 0xF8)) two

lead_three : (b : ℕ) (bytes : List ℕ) → 0xE0 ≤ b → b < 0xF0 → character_at (b ∷ bytes) ≡ three_bytes (b ∷ bytes)
unfolding character_at
lead_three b bytes low high =
    let one : nat_lt b 0x80 ≡ false = grind (arith, nat_tests) in
    let none : nat_lt b 0xC0 ≡ false = grind (arith, nat_tests) in
    let two : nat_lt b 0xE0 ≡ false = grind (arith, nat_tests) in
    let three : nat_lt b 0xF0 ≡ true = grind (arith, nat_tests) in
    ap (λ t. by_lead (b ∷ bytes) t (nat_lt b 0xC0) (nat_lt b 0xE0) (nat_lt b 0xF0) (nat_lt b 0xF8)) one
    ∙ ap (λ t. by_lead (b ∷ bytes) false t (nat_lt b 0xE0) (nat_lt b 0xF0) (nat_lt b 0xF8)) none
    ∙ ap (λ t. by_lead (b ∷ bytes) false false t (nat_lt b 0xF0) (nat_lt b 0xF8)) two
    ∙ ap (λ t. by_lead (b ∷ bytes) false false false t (nat_lt b 0xF8)) three

lead_four : (b : ℕ) (bytes : List ℕ) → 0xF0 ≤ b → b < 0xF8 → character_at (b ∷ bytes) ≡ four_bytes (b ∷ bytes)
unfolding character_at
lead_four b bytes low high =
    let one : nat_lt b 0x80 ≡ false = grind (arith, nat_tests) in
    let none : nat_lt b 0xC0 ≡ false = grind (arith, nat_tests) in
    let two : nat_lt b 0xE0 ≡ false = grind (arith, nat_tests) in
    let three : nat_lt b 0xF0 ≡ false = grind (arith, nat_tests) in
    let four : nat_lt b 0xF8 ≡ true = grind (arith, nat_tests) in
    ap (λ t. by_lead (b ∷ bytes) t (nat_lt b 0xC0) (nat_lt b 0xE0) (nat_lt b 0xF0) (nat_lt b 0xF8)) one
    ∙ ap (λ t. by_lead (b ∷ bytes) false t (nat_lt b 0xE0) (nat_lt b 0xF0) (nat_lt b 0xF8)) none
    ∙ ap (λ t. by_lead (b ∷ bytes) false false t (nat_lt b 0xF0) (nat_lt b 0xF8)) two
    ∙ ap (λ t. by_lead (b ∷ bytes) false false false t (nat_lt b 0xF8)) three
    ∙ ap (by_lead (b ∷ bytes) false false false false) four

is_two : (x y c : ℕ) (rest : List ℕ) → x < 32 → y < 64 → x * 64 + y ≡ c → 128 ≤ c → is_scalar c ≡ true →
    character_at ((192 + x) ∷ (128 + y) ∷ rest) ≡ Some (c, 2)
unfolding two_bytes
is_two x y c rest x_small y_small same low scalar =
    let bytes : List ℕ = (192 + x) ∷ (128 + y) ∷ rest in
    lead_two (192 + x) ((128 + y) ∷ rest) (omega arith) (omega arith)
    ∙ ap (option_and_then (λ low. form_of 0x80 2 ((192 + x - 0xC0) * 64 + low))) (tail_is bytes 1 y refl y_small)
    ∙ form_is 0x80 2 c ((192 + x - 0xC0) * 64 + y) (omega arith) low scalar

is_three : (x y z c : ℕ) (rest : List ℕ) → x < 16 → y < 64 → z < 64 → x * 4096 + (y * 64 + z) ≡ c → 2048 ≤ c →
    is_scalar c ≡ true
    → character_at ((224 + x) ∷ (128 + y) ∷ (128 + z) ∷ rest) ≡ Some (c, 3)
unfolding three_bytes
is_three x y z c rest x_small y_small z_small same low scalar =
    let bytes : List ℕ = (224 + x) ∷ (128 + y) ∷ (128 + z) ∷ rest in
    lead_three (224 + x) ((128 + y) ∷ (128 + z) ∷ rest) (omega arith) (omega arith)
    ∙ ap (option_and_then (λ low. form_of 0x800 3 ((224 + x - 0xE0) * 4096 + low)))
    (two_tails_are bytes 1 y z (tail_is bytes 1 y refl y_small) (tail_is bytes 2 z refl z_small))
    ∙ form_is 0x800 3 c ((224 + x - 0xE0) * 4096 + (y * 64 + z)) (omega arith) low scalar

pub is_four : (w x y z c : ℕ) (rest : List ℕ) → w < 8 → x < 64 → y < 64 → z < 64 →
    w * 262144 + x * 4096 + (y * 64 + z) ≡ c → 65536 ≤ c → is_scalar c ≡ true
    → character_at ((240 + w) ∷ (128 + x) ∷ (128 + y) ∷ (128 + z) ∷ rest) ≡ Some (c, 4)
unfolding four_bytes
is_four w x y z c rest w_small x_small y_small z_small same low scalar =
    let bytes : List ℕ = (240 + w) ∷ (128 + x) ∷ (128 + y) ∷ (128 + z) ∷ rest in
    lead_four (240 + w) ((128 + x) ∷ (128 + y) ∷ (128 + z) ∷ rest) (omega arith) (omega arith)
    ∙ ap (option_and_then
    (λ high. option_and_then (λ low. form_of 0x1_0000 4 ((240 + w - 0xF0) * 262144 + high * 4096 + low))
    (two_tails_at bytes 2))) (tail_is bytes 1 x refl x_small)
    ∙ ap (option_and_then (λ low. form_of 0x1_0000 4 ((240 + w - 0xF0) * 262144 + x * 4096 + low)))
    (two_tails_are bytes 2 y z (tail_is bytes 2 y refl y_small) (tail_is bytes 3 z refl z_small))
    ∙ form_is 0x1_0000 4 c ((240 + w - 0xF0) * 262144 + x * 4096 + (y * 64 + z)) (omega arith) low scalar

-- ---- a character of a string

read_one : (c : ℕ) → c < 128 → (rest : List ℕ) → character_at (c ∷ rest) ≡ Some (c, 1)
unfolding character_at
read_one c h rest =
    let one : nat_lt c 0x80 ≡ true = grind (arith, nat_tests) in
    given_some (nat_lt c 0x80) (Some (c, 1)) _ one
  where
    given_some : (t : Bool) (x y : Option (ℕ × ℕ)) → t ≡ true → cond t x y ≡ x
    given_some t x y h = ap (λ t. cond t x y) h

-- the bytes of a character, of which the first is no quote and no backslash where the character is none
record Bytes (c : ℕ) : Type 0 where
  first : ℕ
  others : List ℕ
  are : encode_utf8 c ≡ first ∷ others
  read : (rest : List ℕ) → character_at (first ∷ others ++ rest) ≡ Some (c, suc (length others))
  quote : c ≢ 34 → first ≢ 34
  backslash : c ≢ 92 → first ≢ 92

scalar_small : (c : ℕ) → is_scalar c ≡ true → c < 1114112
scalar_small c h = grind (arith, nat_tests)

bytes_of : (c : ℕ) → is_scalar c ≡ true → Bytes c
bytes_of c scalar = by_one (cases_lt c 128)
  where
    by_three : (2048 ≤ c) → (c < 65536) ⊎ (65536 ≤ c) → Bytes c
    by_three low (inl high) = record {
      first = 224 + c / 4096;
      others = (128 + c / 64 % 64) ∷ (128 + c % 64) ∷ [];
      are = encode_three c low high;
      read = λ rest. is_three (c / 4096) (c / 64 % 64) (c % 64) c rest (omega arith) (omega arith) (omega arith)
          (omega arith) low scalar;
      quote = λ ne e. absurd (omega (arith, e));
      backslash = λ ne e. absurd (omega (arith, e));
    }
    by_three low (inr past) = record {
      first = 240 + c / 262144;
      others = (128 + c / 4096 % 64) ∷ (128 + c / 64 % 64) ∷ (128 + c % 64) ∷ [];
      are = encode_four c past;
      read = λ rest. is_four (c / 262144) (c / 4096 % 64) (c / 64 % 64) (c % 64) c rest
          (omega (arith, scalar_small c scalar)) (omega arith) (omega arith) (omega arith) (omega arith) past scalar;
      quote = λ ne e. absurd (omega (arith, e));
      backslash = λ ne e. absurd (omega (arith, e));
    }

    by_two : (128 ≤ c) → (c < 2048) ⊎ (2048 ≤ c) → Bytes c
    by_two low (inl high) = record {
      first = 192 + c / 64;
      others = (128 + c % 64) ∷ [];
      are = encode_two c low high;
      read = λ rest. is_two (c / 64) (c % 64) c rest (omega arith) (omega arith) (omega arith) low scalar;
      quote = λ ne e. absurd (omega (arith, e));
      backslash = λ ne e. absurd (omega (arith, e));
    }
    by_two low (inr past) = by_three past (cases_lt c 65536)

    by_one : (c < 128) ⊎ (128 ≤ c) → Bytes c
    by_one (inl low) = record {
      first = c;
      others = [];
      are = encode_ascii c low;
      read = read_one c low;
      quote = λ ne. ne;
      backslash = λ ne. ne;
    }
    by_one (inr past) = by_two past (cases_lt c 2048)

-- a character as it is spelled, before what goes on
abbrev IsElement : ℕ → List ℕ → Type 0
IsElement c word = (rest : List ℕ) → quoted_from 0 (word ++ rest) ≡ behind (c ∷ []) (length word) (quoted_from 0 rest)

escaped : (c : ℕ) (rest : List ℕ) → element_at (92 ∷ c ∷ rest) ≡ Some (c, 2) →
    quoted_from 0 (92 ∷ c ∷ rest) ≡ behind (c ∷ []) 2 (quoted_from 0 rest)
escaped c rest is = quoted_from-element 92 (c ∷ rest) c 1 is refl

quote_read : IsElement 34 (92 ∷ 34 ∷ [])
unfolding element_at escape_at
quote_read rest = escaped 34 rest refl

backslash_read : IsElement 92 (92 ∷ 92 ∷ [])
unfolding element_at escape_at
backslash_read rest = escaped 92 rest refl

plain_read : (c : ℕ) → c ≢ 34 → c ≢ 92 → Bytes c → IsElement c (encode_utf8 c)
unfolding element_at
plain_read c no_quote no_backslash bytes rest =
    ap (λ w. quoted_from 0 (w ++ rest)) bytes.are
    ∙ quoted_from-element bytes.first (bytes.others ++ rest) c (length bytes.others)
    (ap (λ t. cond t (escape_at (bytes.first ∷ bytes.others ++ rest))
    (character_at (bytes.first ∷ bytes.others ++ rest))) (ne_eqb bytes.first 92 (bytes.backslash no_backslash))
    ∙ bytes.read rest)
    (ne_eqb bytes.first 34 (bytes.quote no_quote))
    ∙ ap (λ t. behind (c ∷ []) (suc (length bytes.others)) (quoted_from 0 t)) (drop-append_seam bytes.others rest)
    ∙ ap (λ w. behind (c ∷ []) (length w) (quoted_from 0 rest)) (sym bytes.are)

element_read : (c : ℕ) → is_scalar c ≡ true → IsElement c (character_spelling c)
element_read c scalar = by_quote (cases_eq c 34) (cases_eq c 92)
  where
    by_quote : (c ≡ 34) ⊎ (c ≢ 34) → (c ≡ 92) ⊎ (c ≢ 92) → IsElement c (character_spelling c)
    by_quote (inl e) other = subst (λ c. IsElement c (character_spelling c)) (sym e) quote_read
    by_quote (inr ne) (inl e) = subst (λ c. IsElement c (character_spelling c)) (sym e) backslash_read
    by_quote (inr no_quote) (inr no_backslash) =
        subst (IsElement c) (sym
        (ap (λ t. cond t (92 ∷ 34 ∷ []) (cond (c == 92) (92 ∷ 92 ∷ []) (encode_utf8 c))) (ne_eqb c 34 no_quote)
        ∙ ap (λ t. cond t (92 ∷ 92 ∷ []) (encode_utf8 c)) (ne_eqb c 92 no_backslash)))
        (plain_read c no_quote no_backslash (bytes_of c scalar))

-- ---- a string
chars_read : (chars : List ℕ) (rest : List ℕ) → AreScalars chars
    → quoted_from 0 (flat_map character_spelling chars ++ 34 ∷ rest)
    ≡ Closed chars (length (flat_map character_spelling chars) + 1)
chars_read [] rest can = quoted_from-closed rest
chars_read (c ∷ chars) rest (scalar, can) =
    ap (quoted_from 0) (append_assoc (character_spelling c) (flat_map character_spelling chars) (34 ∷ rest))
    ∙ element_read c scalar (flat_map character_spelling chars ++ 34 ∷ rest)
    ∙ ap (behind (c ∷ []) (length (character_spelling c))) (chars_read chars rest can)
    ∙ ap (Closed (c ∷ chars))
    (omega (arith, length-append (character_spelling c) (flat_map character_spelling chars)))

pub string_front : (chars : List ℕ) (b : Bool) (rest : List ℕ) → AreScalars chars
    → front_of ((34 ∷ flat_map character_spelling chars ++ 34 ∷ []) ++ blank_behind b ∷ rest)
    ≡ Cut (Str chars) (length (34 ∷ flat_map character_spelling chars ++ 34 ∷ []))
unfolding front_of string_of
string_front chars b rest can =
    ap (λ t. string_of (quoted_from 0 t))
    (append_assoc (flat_map character_spelling chars) (34 ∷ []) (blank_behind b ∷ rest))
    ∙ ap string_of (chars_read chars (blank_behind b ∷ rest) can)
    ∙ ap (Cut (Str chars)) (omega (arith, length-append (flat_map character_spelling chars) (34 ∷ [])))
