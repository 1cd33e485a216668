-- How tokens are spelled, and the text of tokens with a blank behind each.
use Prim.Native.Char.{code}
use Rattle.std.specs.Prelude.{◌≡◌, ℕ, ◌<◌, ◌≤◌, Bool, true, false, List, [], ◌∷◌, ◌++◌, None, Ok, pos, codes, length}
use Rattle.std.specs.Prelude.{encode_utf8, ◌==◌, if◌then◌else◌}
use Rattle.std.specs.List.{flat_map}
use Rattle.scad_fault.specs.declared.place.Place.{Place}
use Rattle.scad_num.specs.Number.{most}
use Rattle.scad_num.specs.Text.{number_text}
use Rattle.scad_lex.specs.declared.token.Token.{Token}
use Rattle.scad_lex.specs.declared.token.TokenKind.{TokenKind}
use Rattle.scad_lex.specs.declared.token.TokenKind.TheVariants.{Number, Str, Word, Sign, Key}
use Rattle.scad_lex.specs.declared.token.Sign.{Sign as SignName}
use Rattle.scad_lex.specs.declared.token.Sign.TheVariants.{OpenRound, CloseRound, OpenSquare, CloseSquare, OpenCurly}
use Rattle.scad_lex.specs.declared.token.Sign.TheVariants.{CloseCurly, Semicolon, Comma, Colon, Question, Assign}
use Rattle.scad_lex.specs.declared.token.Sign.TheVariants.{Equal, NotEqual, Less, LessEqual, Greater, GreaterEqual}
use Rattle.scad_lex.specs.declared.token.Sign.TheVariants.{Plus, Minus, Star, Slash, Percent, Caret, Bang, AndAnd}
use Rattle.scad_lex.specs.declared.token.Sign.TheVariants.{OrOr, Hash, Dot}
use Rattle.scad_lex.specs.declared.token.Key.{Key as KeyName}
use Rattle.scad_lex.specs.declared.token.Key.TheVariants.{Module, Function, If, Else, For, Let, Assert, Echo, Each}
use Rattle.scad_lex.specs.declared.token.Key.TheVariants.{True, False, Undef, Include, Use}
use Rattle.scad_lex.specs.Character.{is_scalar}
use Rattle.scad_lex.specs.Keys.{key_of}
use Rattle.scad_lex.specs.Words.{word_len}
use Rattle.scad_lex.specs.Tokens.{after, tokens, start}

abbrev pub sign_spelling : SignName → List ℕ
sign_spelling OpenRound = codes "("
sign_spelling CloseRound = codes ")"
sign_spelling OpenSquare = codes "["
sign_spelling CloseSquare = codes "]"
sign_spelling OpenCurly = codes "{"
sign_spelling CloseCurly = codes "}"
sign_spelling Semicolon = codes ";"
sign_spelling Comma = codes ","
sign_spelling Colon = codes ":"
sign_spelling Question = codes "?"
sign_spelling Assign = codes "="
sign_spelling Equal = codes "=="
sign_spelling NotEqual = codes "!="
sign_spelling Less = codes "<"
sign_spelling LessEqual = codes "<="
sign_spelling Greater = codes ">"
sign_spelling GreaterEqual = codes ">="
sign_spelling Plus = codes "+"
sign_spelling Minus = codes "-"
sign_spelling Star = codes "*"
sign_spelling Slash = codes "/"
sign_spelling Percent = codes "%"
sign_spelling Caret = codes "^"
sign_spelling Bang = codes "!"
sign_spelling AndAnd = codes "&&"
sign_spelling OrOr = codes "||"
sign_spelling Hash = codes "#"
sign_spelling Dot = codes "."

abbrev pub key_spelling : KeyName → List ℕ
key_spelling Module = codes "module"
key_spelling Function = codes "function"
key_spelling If = codes "if"
key_spelling Else = codes "else"
key_spelling For = codes "for"
key_spelling Let = codes "let"
key_spelling Assert = codes "assert"
key_spelling Echo = codes "echo"
key_spelling Each = codes "each"
key_spelling True = codes "true"
key_spelling False = codes "false"
key_spelling Undef = codes "undef"
key_spelling Include = codes "include"
key_spelling Use = codes "use"

-- a character of a string: a quote and a backslash behind a backslash, any other as it is
abbrev pub character_spelling : ℕ → List ℕ
character_spelling c = if c == code "\"" then codes "\\\"" else if c == code "\\" then codes "\\\\" else encode_utf8 c

abbrev pub spelling : TokenKind → List ℕ
spelling (Number z) = number_text z
spelling (Str chars) = code "\"" ∷ flat_map character_spelling chars ++ codes "\""
spelling (Word word) = word
spelling (Sign sign) = sign_spelling sign
spelling (Key key) = key_spelling key

-- each of these is a character
abbrev pub AreScalars : List ℕ → Type 0
AreScalars [] = Unit {0}
AreScalars (c ∷ chars) = (is_scalar c ≡ true) × AreScalars chars

-- a token that a text can have: a number without a sign and in range, characters, a name that is no keyword
abbrev pub CanBeSpelled : TokenKind → Type 0
CanBeSpelled (Number z) = (n : ℕ) × (z ≡ pos n) × (n ≤ most)
CanBeSpelled (Str chars) = AreScalars chars
CanBeSpelled (Word word) = (0 < length word) × (word_len word ≡ length word) × (key_of word ≡ None)
CanBeSpelled (Sign sign) = Unit {0}
CanBeSpelled (Key key) = Unit {0}

-- a token, and whether its line ends behind it
abbrev pub Spaced : Type 0
Spaced = TokenKind × Bool

-- the blank behind a token
abbrev pub blank_behind : Bool → ℕ
blank_behind true = code "\n"
blank_behind false = code " "

-- the text of tokens, a blank behind each
abbrev pub spelled : List Spaced → List ℕ
spelled [] = []
spelled (k ∷ more) = spelling k.0 ++ blank_behind k.1 ∷ spelled more

abbrev pub CanAllBeSpelled : List Spaced → Type 0
CanAllBeSpelled [] = Unit {0}
CanAllBeSpelled (k ∷ more) = CanBeSpelled k.0 × CanAllBeSpelled more

-- the tokens of that text, from a place on
abbrev pub placed : Place → List Spaced → List Token
placed at [] = []
placed at (k ∷ more) = record { kind = k.0; at = at } ∷ placed (after at (spelling k.0 ++ blank_behind k.1 ∷ [])) more

-- the text of tokens that are spelled so has these tokens, and no others
abbrev pub SpelledTokensAreRead : Type 0
SpelledTokensAreRead = (all : List Spaced) → CanAllBeSpelled all →
    tokens (spelled all) ≡ Ok (placed start all, after start (spelled all))

-- each of these tokens can be spelled
abbrev pub HaveSpellings : List Token → Type 0
HaveSpellings [] = Unit {0}
HaveSpellings (t ∷ ts) = CanBeSpelled t.kind × HaveSpellings ts

-- the tokens of a text can be spelled
abbrev pub TokensHaveSpellings : Type 0
TokensHaveSpellings = (bytes : List ℕ) (ts : List Token) (end : Place) → tokens bytes ≡ Ok (ts, end) →
    HaveSpellings ts
