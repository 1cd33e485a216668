-- What stands at the front of a text: blanks or a comment, a token, or neither.
use Prim.Native.Char.{code}
use Rattle.std.specs.Prelude.{ℕ, ◌+◌, ◌<◌, ◌≤◌, ◌&&◌, List, Option, Some, None, Result, Ok, Err, ℤ, ◌==◌, nat_lt}
use Rattle.std.specs.Prelude.{if◌then◌else◌, slice_index, take, drop, length}
use Rattle.std.specs.List.{prefix_len}
use Rattle.scad_num.specs.declared.fault.NumFault.{NumFault}
use Rattle.scad_num.specs.Literal.{literal_len, literal_number}
use Rattle.scad_lex.specs.declared.token.TokenKind.TheVariants.{Number, Str, Word, Sign, Key}
use Rattle.scad_lex.specs.declared.token.Sign.{Sign as SignName}
use Rattle.scad_lex.specs.declared.token.Key.{Key as KeyName}
use Rattle.scad_lex.specs.declared.string_body.Quoted.{Quoted}
use Rattle.scad_lex.specs.declared.string_body.Quoted.TheVariants.{Closed, Unclosed, Broken}
use Rattle.scad_lex.specs.declared.front.Front.{Front}
use Rattle.scad_lex.specs.declared.front.Front.TheVariants.{Gap, Cut, Bad, TooLarge}
use Rattle.scad_lex.specs.Gap.{is_blank, closed_len}
use Rattle.scad_lex.specs.Classes.{is_of}
use Rattle.scad_lex.specs.declared.gap.Class.TheVariants.{Blank, WithinLine}
use Rattle.scad_lex.specs.StringLiteral.{quoted}
use Rattle.scad_lex.specs.Words.{word_len}
use Rattle.scad_lex.specs.Keys.{key_of}
use Rattle.scad_lex.specs.Signs.{two_byte_sign, one_byte_sign}

-- a comment up to the first `*/` behind its `/*`
unfoldable pub comment_of : Option ℕ → Front
comment_of (Some n) = Gap (n + 2)
comment_of None = Bad 0

-- a string, with its quotes
unfoldable pub string_of : Quoted → Front
string_of (Closed chars n) = Cut (Str chars) (n + 1)
string_of Unclosed = Bad 0
string_of (Broken n) = Bad (n + 1)

-- a number that these bytes write
unfoldable pub numeral_of : List ℕ → Result ℤ NumFault → Front
numeral_of literal (Ok z) = Cut (Number z) (length literal)
numeral_of literal (Err fault) = TooLarge

-- a keyword, or any other name
unfoldable pub word_of : List ℕ → Option KeyName → Front
word_of word (Some key) = Cut (Key key) (length word)
word_of word None = Cut (Word word) (length word)

-- a sign, the longer one first, or nothing that may stand there
unfoldable pub sign_of : Option SignName → Option SignName → Front
sign_of (Some sign) short = Cut (Sign sign) 2
sign_of None (Some sign) = Cut (Sign sign) 1
sign_of None None = Bad 0

unfoldable pub front_of : List ℕ → Front
front_of bytes =
    let a = slice_index bytes 0 in
    let b = slice_index bytes 1 in
    if is_blank a then Gap (prefix_len (is_of Blank) bytes)
    else (if a == code "/" && b == code "/" then Gap (prefix_len (is_of WithinLine) bytes)
    else (if a == code "/" && b == code "*" then comment_of (closed_len (drop 2 bytes))
    else (if a == code "\"" then string_of (quoted (drop 1 bytes))
    else (if nat_lt 0 (literal_len bytes) then
    numeral_of (take (literal_len bytes) bytes) (literal_number (take (literal_len bytes) bytes))
    else (if nat_lt 0 (word_len bytes) then
    word_of (take (word_len bytes) bytes) (key_of (take (word_len bytes) bytes))
    else sign_of (two_byte_sign a b) (one_byte_sign a))))))

-- a piece has at least a byte, and few bytes beyond a text of this length
abbrev pub IsWithin : Front → ℕ → Type 0
IsWithin (Gap n) long = (0 < n) × (n ≤ long + 16)
IsWithin (Cut kind n) long = (0 < n) × (n ≤ long + 16)
IsWithin (Bad n) long = n ≤ long + 16
IsWithin TooLarge long = Unit {0}
