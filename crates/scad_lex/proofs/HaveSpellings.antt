-- The tokens of a text can be spelled.
use Rattle.std.proofs.Common.{◌≡◌, ℕ, zero, suc, ◌<◌, Bool, true, false, cond, ◌==◌, ◌&&◌, List, [], ◌∷◌}
use Rattle.std.proofs.Common.{take, drop, Option, Some, None, Ok, Err, refl, subst, arith}
use Rattle.std.specs.Prelude.{pos, slice_index, option_and_then, nat_lt, nat_le}
use Rattle.std.specs.List.{prefix_len}
use Rattle.std.proofs.lemmas.Bool.Decides.{nat_tests}
use Rattle.scad_fault.specs.declared.place.Place.{Place}
use Rattle.scad_num.specs.declared.fault.NumFault.TheVariants.{Range}
use Rattle.scad_num.specs.Literal.{literal_len, literal_number, literal_millionths}
use Rattle.scad_num.specs.Number.{most, number_of}
use Rattle.scad_lex.specs.declared.token.Key.{Key as KeyName}
use Rattle.scad_lex.specs.declared.token.Sign.{Sign as SignName}
use Rattle.scad_lex.specs.declared.front.Front.{Front}
use Rattle.scad_lex.specs.declared.front.Front.TheVariants.{Gap, Cut, Bad, TooLarge}
use Rattle.scad_lex.specs.declared.string_body.Quoted.{Quoted}
use Rattle.scad_lex.specs.declared.string_body.Quoted.TheVariants.{Closed, Unclosed, Broken}
use Rattle.scad_lex.specs.declared.gap.Class.TheVariants.{Blank, WithinLine}
use Rattle.scad_lex.specs.Classes.{is_of}
use Rattle.scad_lex.specs.Gap.{is_blank, closed_len}
use Rattle.scad_lex.specs.Character.{is_scalar, tail_at, two_tails_at, form_of, two_bytes, three_bytes, four_bytes}
use Rattle.scad_lex.specs.Character.{character_at}
use Rattle.scad_lex.specs.Escape.{coded, escape_at, two_digits, four_digits, six_digits}
use Rattle.scad_lex.specs.StringLiteral.{element_at, behind, begun, quoted_from, others as others_of}
use Rattle.scad_lex.specs.Words.{word_len}
use Rattle.scad_lex.specs.Keys.{key_of}
use Rattle.scad_lex.specs.Signs.{two_byte_sign, one_byte_sign}
use Rattle.scad_lex.specs.Front.{front_of, comment_of, string_of, numeral_of, word_of, sign_of}
use Rattle.scad_lex.specs.Tokens.{Answer, next, others, led_by, tokens_from, start, without_mark}
use Rattle.scad_lex.specs.Spelling.{AreScalars, CanBeSpelled, HaveSpellings, TokensHaveSpellings}
use Rattle.scad_lex.proofs.CutNames.{IsName, word_name}

-- ---- characters
abbrev ElementCan : Option (ℕ × ℕ) → Type 0
ElementCan None = Unit {0}
ElementCan (Some (c, n)) = is_scalar c ≡ true

either_can : (t : Bool) (x y : Option (ℕ × ℕ)) → ElementCan x → ElementCan y → ElementCan (cond t x y)
either_can true x y a b = a
either_can false x y a b = b

then_can : (f : ℕ → Option (ℕ × ℕ)) (o : Option ℕ) → ((x : ℕ) → ElementCan (f x)) → ElementCan (option_and_then f o)
then_can f None all = tt
then_can f (Some x) all = all x

form_can : (least n c : ℕ) → ElementCan (form_of least n c)
unfolding form_of
form_can least n c = by_tests (nat_le least c) (is_scalar c) refl
  where
    by_tests : (t s : Bool) → is_scalar c ≡ s → ElementCan (cond (t && s) (Some (c, n)) None)
    by_tests true true h = h
    by_tests true false h = tt
    by_tests false s h = tt

coded_can : (limit n c : ℕ) → ElementCan (coded limit n c)
unfolding coded
coded_can limit n c = by_tests (nat_lt 0 c) (nat_lt c limit) (is_scalar c) refl
  where
    by_tests : (t u s : Bool) → is_scalar c ≡ s → ElementCan (cond (t && (u && s)) (Some (c, n)) None)
    by_tests true true true h = h
    by_tests true true false h = tt
    by_tests true false s h = tt
    by_tests false u s h = tt

escape_can : (bytes : List ℕ) → ElementCan (escape_at bytes)
unfolding escape_at
escape_can bytes =
    either_can (slice_index bytes 1 == 110) _ _ refl
    (either_can (slice_index bytes 1 == 116) _ _ refl
    (either_can (slice_index bytes 1 == 114) _ _ refl
    (either_can (slice_index bytes 1 == 92) _ _ refl
    (either_can (slice_index bytes 1 == 34) _ _ refl
    (either_can (slice_index bytes 1 == 120) _ _ (then_can (coded 128 4) (two_digits bytes 2) (coded_can 128 4))
    (either_can (slice_index bytes 1 == 117) _ _
    (then_can (coded 0x11_0000 6) (four_digits bytes 2) (coded_can 0x11_0000 6))
    (either_can (slice_index bytes 1 == 85) _ _
    (then_can (coded 0x11_0000 8) (six_digits bytes 2) (coded_can 0x11_0000 8)) tt)))))))

two_can : (bytes : List ℕ) → ElementCan (two_bytes bytes)
unfolding two_bytes
two_can bytes = then_can _ (tail_at bytes 1) (λ low. form_can 0x80 2 _)

three_can : (bytes : List ℕ) → ElementCan (three_bytes bytes)
unfolding three_bytes
three_can bytes = then_can _ (two_tails_at bytes 1) (λ low. form_can 0x800 3 _)

four_can : (bytes : List ℕ) → ElementCan (four_bytes bytes)
unfolding four_bytes
four_can bytes = then_can _ (tail_at bytes 1)
    (λ high. then_can _ (two_tails_at bytes 2) (λ low. form_can 0x1_0000 4 _))

character_can : (bytes : List ℕ) → ElementCan (character_at bytes)
unfolding character_at
character_can bytes = by_ascii (nat_lt (slice_index bytes 0) 0x80) refl
  where
    by_ascii : (t : Bool) → nat_lt (slice_index bytes 0) 0x80 ≡ t
        → ElementCan (cond t (Some (slice_index bytes 0, 1))
        (cond (nat_lt (slice_index bytes 0) 0xC0) None (cond (nat_lt (slice_index bytes 0) 0xE0) (two_bytes bytes)
        (cond (nat_lt (slice_index bytes 0) 0xF0) (three_bytes bytes)
        (cond (nat_lt (slice_index bytes 0) 0xF8) (four_bytes bytes) None)))))
    by_ascii true h = grind (arith, nat_tests)
    by_ascii false h =
        either_can (nat_lt (slice_index bytes 0) 0xC0) _ _ tt
        (either_can (nat_lt (slice_index bytes 0) 0xE0) _ _ (two_can bytes)
        (either_can (nat_lt (slice_index bytes 0) 0xF0) _ _ (three_can bytes)
        (either_can (nat_lt (slice_index bytes 0) 0xF8) _ _ (four_can bytes) tt)))

element_can : (bytes : List ℕ) → ElementCan (element_at bytes)
unfolding element_at
element_can bytes = either_can (slice_index bytes 0 == 92) _ _ (escape_can bytes) (character_can bytes)

abbrev QuotedCan : Quoted → Type 0
QuotedCan (Closed chars n) = AreScalars chars
QuotedCan Unclosed = Unit {0}
QuotedCan (Broken n) = Unit {0}

behind_none : (n : ℕ) (q : Quoted) → QuotedCan q → QuotedCan (behind [] n q)
behind_none n (Closed chars m) can = can
behind_none n Unclosed can = tt
behind_none n (Broken m) can = tt

behind_one : (c n : ℕ) (q : Quoted) → is_scalar c ≡ true → QuotedCan q → QuotedCan (behind (c ∷ []) n q)
behind_one c n (Closed chars m) scalar can = (scalar, can)
behind_one c n Unclosed scalar can = tt
behind_one c n (Broken m) scalar can = tt

begun_can : (b : ℕ) (e : Option (ℕ × ℕ)) (later : Quoted) → ElementCan e → QuotedCan later →
    QuotedCan (begun b e later)
begun_can b None later one can = by_quote (b == 34)
  where
    by_quote : (t : Bool) → QuotedCan (cond t (Closed [] 1) (Broken 0))
    by_quote true = tt
    by_quote false = tt
begun_can b (Some (c, n)) later one can = by_quote (b == 34)
  where
    by_quote : (t : Bool) → QuotedCan (cond t (Closed [] 1) (behind (c ∷ []) 1 later))
    by_quote true = tt
    by_quote false = behind_one c 1 later one can

quoted_can : (n : ℕ) (bytes : List ℕ) → QuotedCan (quoted_from n bytes)
quoted_can zero [] = tt
quoted_can (suc n) [] = tt
quoted_can zero (b ∷ bytes) =
    begun_can b (element_at (b ∷ bytes)) (quoted_from (others_of (element_at (b ∷ bytes))) bytes)
    (element_can (b ∷ bytes)) (quoted_can (others_of (element_at (b ∷ bytes))) bytes)
quoted_can (suc n) (b ∷ bytes) = behind_none 1 (quoted_from n bytes) (quoted_can n bytes)

-- ---- what stands at the front
abbrev FrontCan : Front → Type 0
FrontCan (Cut kind n) = CanBeSpelled kind
FrontCan (Gap n) = Unit {0}
FrontCan (Bad n) = Unit {0}
FrontCan TooLarge = Unit {0}

front_either : (t : Bool) (x y : Front) → FrontCan x → FrontCan y → FrontCan (cond t x y)
front_either true x y a b = a
front_either false x y a b = b

comment_can : (o : Option ℕ) → FrontCan (comment_of o)
unfolding comment_of
comment_can (Some n) = tt
comment_can None = tt

string_can : (q : Quoted) → QuotedCan q → FrontCan (string_of q)
unfolding string_of
string_can (Closed chars n) can = can
string_can Unclosed can = tt
string_can (Broken n) can = tt

numeral_can : (literal : List ℕ) (m : ℕ) → FrontCan (numeral_of literal (number_of (pos m)))
unfolding numeral_of number_of
numeral_can literal m = by_size (nat_le m most) refl
  where
    by_size : (t : Bool) → nat_le m most ≡ t → FrontCan (numeral_of literal (cond t (Ok (pos m)) (Err Range)))
    by_size true h = (m, refl, grind (arith, nat_tests))
    by_size false h = tt

word_can : (word : List ℕ) (k : Option KeyName) → key_of word ≡ k → IsName word → FrontCan (word_of word k)
unfolding word_of
word_can word (Some key) is name = tt
word_can word None is name = (name.0, name.1, is)

sign_can : (long short : Option SignName) → FrontCan (sign_of long short)
unfolding sign_of
sign_can (Some sign) short = tt
sign_can None (Some sign) = tt
sign_can None None = tt

word_branch : (bytes : List ℕ) (rest : Front) → FrontCan rest
    → FrontCan (cond (nat_lt 0 (word_len bytes))
    (word_of (take (word_len bytes) bytes) (key_of (take (word_len bytes) bytes))) rest)
word_branch bytes rest can = by_some (nat_lt 0 (word_len bytes)) refl
  where
    by_some : (t : Bool) → nat_lt 0 (word_len bytes) ≡ t →
        FrontCan (cond t (word_of (take (word_len bytes) bytes) (key_of (take (word_len bytes) bytes))) rest)
    by_some true h = let some : 0 < word_len bytes =
        grind (arith, nat_tests) in word_can (take (word_len bytes) bytes) (key_of (take (word_len bytes) bytes)) refl
        (word_name bytes some)
    by_some false h = can

front_can : (bytes : List ℕ) → FrontCan (front_of bytes)
unfolding front_of
front_can bytes =
    let a = slice_index bytes 0 in
    let b = slice_index bytes 1 in
    let literal = take (literal_len bytes) bytes in
    let word = take (word_len bytes) bytes in
    let signs : Front = sign_of (two_byte_sign a b) (one_byte_sign a) in
    let names : Front = cond (nat_lt 0 (word_len bytes)) (word_of word (key_of word)) signs in
    let numerals : Front = cond (nat_lt 0 (literal_len bytes)) (numeral_of literal (literal_number literal)) names in
    let strings : Front = cond (a == 34) (string_of (quoted_from 0 (drop 1 bytes))) numerals in
    let comments : Front = cond (a == 47 && b == 42) (comment_of (closed_len (drop 2 bytes))) strings in
    let lines : Front = cond (a == 47 && b == 47) (Gap (prefix_len (is_of WithinLine) bytes)) comments in
    front_either (is_blank a) (Gap (prefix_len (is_of Blank) bytes)) lines tt
    (front_either (a == 47 && b == 47) (Gap (prefix_len (is_of WithinLine) bytes)) comments tt
    (front_either (a == 47 && b == 42) (comment_of (closed_len (drop 2 bytes))) strings
    (comment_can (closed_len (drop 2 bytes)))
    (front_either (a == 34) (string_of (quoted_from 0 (drop 1 bytes))) numerals
    (string_can (quoted_from 0 (drop 1 bytes)) (quoted_can 0 (drop 1 bytes)))
    (front_either (nat_lt 0 (literal_len bytes)) (numeral_of literal (literal_number literal)) names
    (numeral_can literal (literal_millionths literal))
    (word_branch bytes signs (sign_can (two_byte_sign a b) (one_byte_sign a)))))))

-- ---- tokens
abbrev AnswerCan : Answer → Type 0
AnswerCan (Ok found) = HaveSpellings found.0
AnswerCan (Err fault) = Unit {0}

led_can : (piece : Front) (at : Place) (bytes : List ℕ) (later : Answer) → FrontCan piece → AnswerCan later →
    AnswerCan (led_by piece at bytes later)
led_can (Gap n) at bytes later piece_can can = can
led_can (Cut kind n) at bytes (Ok found) piece_can can = (piece_can, can)
led_can (Cut kind n) at bytes (Err fault) piece_can can = tt
led_can (Bad n) at bytes later piece_can can = tt
led_can TooLarge at bytes later piece_can can = tt

from_can : (n : ℕ) (at : Place) (bytes : List ℕ) → AnswerCan (tokens_from n at bytes)
from_can zero at [] = tt
from_can (suc n) at [] = tt
from_can zero at (b ∷ bytes) =
    led_can (front_of (b ∷ bytes)) at (b ∷ bytes) (tokens_from (others (front_of (b ∷ bytes))) (next at b) bytes)
    (front_can (b ∷ bytes))
    (from_can (others (front_of (b ∷ bytes))) (next at b) bytes)
from_can (suc n) at (b ∷ bytes) = from_can n (next at b) bytes

pub tokens_have_spellings : TokensHaveSpellings
tokens_have_spellings bytes ts end is = subst AnswerCan is (from_can 0 start (without_mark bytes))
