-- A token that passes a test is the token that the test asks for.
use Rattle.std.proofs.Common.{◌≡◌, ℕ, true, List, Some, ◌==◌, if◌then◌else◌, refl, ap, sym}
use Rattle.std.proofs.Common.{◌∙◌}
use Rattle.scad_lex.specs.declared.token.Token.{Token}
use Rattle.scad_lex.specs.declared.token.TokenKind.{TokenKind}
use Rattle.scad_lex.specs.declared.token.TokenKind.TheVariants.{Number, Str, Word, Sign, Key}
use Rattle.scad_lex.specs.declared.token.Sign.{Sign as SignName}
use Rattle.scad_lex.specs.declared.token.Sign.TheVariants.{OpenRound, CloseRound, OpenSquare, CloseSquare, OpenCurly}
use Rattle.scad_lex.specs.declared.token.Sign.TheVariants.{CloseCurly, Semicolon, Comma, Colon, Question, Assign}
use Rattle.scad_lex.specs.declared.token.Sign.TheVariants.{Equal, NotEqual, Less, LessEqual, Greater, GreaterEqual}
use Rattle.scad_lex.specs.declared.token.Sign.TheVariants.{Plus, Minus, Star, Slash, Percent, Caret, Bang, AndAnd}
use Rattle.scad_lex.specs.declared.token.Sign.TheVariants.{OrOr, Hash, Dot}
use Rattle.scad_lex.specs.declared.token.Key.{Key as KeyName}
use Rattle.scad_lex.specs.declared.token.Key.TheVariants.{Module, Function, If, Else, For, Let, Assert, Echo, Each}
use Rattle.scad_lex.specs.declared.token.Key.TheVariants.{True, False, Undef, Include, Use}
use Rattle.std.proofs.lemmas.Bool.{eqb-true, false≢true}
use Rattle.scad_grammar.specs.Tokens.{sign_number, key_number, is_sign_kind, is_key_kind, word_kind, is_sign, is_key}
use Rattle.scad_grammar.specs.Tokens.{word_of, sign, key, word}
use Rattle.std.proofs.lemmas.Option.{same_Some, none-some}

-- the sign, the key of a number
abbrev sign_from : ℕ → SignName
sign_from n =
    if n == 0 then OpenRound
    else (if n == 1 then CloseRound
    else (if n == 2 then OpenSquare
    else (if n == 3 then CloseSquare
    else (if n == 4 then OpenCurly
    else (if n == 5 then CloseCurly
    else (if n == 6 then Semicolon
    else (if n == 7 then Comma
    else (if n == 8 then Colon
    else (if n == 9 then Question
    else (if n == 10 then Assign
    else (if n == 11 then Equal
    else (if n == 12 then NotEqual
    else (if n == 13 then Less
    else (if n == 14 then LessEqual
    else (if n == 15 then Greater
    else (if n == 16 then GreaterEqual
    else (if n == 17 then Plus
    else (if n == 18 then Minus
    else (if n == 19 then Star
    else (if n == 20 then Slash
    else (if n == 21 then Percent
    else (if n == 22 then Caret
    else (if n == 23 then Bang
    else (if n == 24 then AndAnd
    else (if n == 25 then OrOr
    else (if n == 26 then Hash
    else Dot))))))))))))))))))))))))))

abbrev key_from : ℕ → KeyName
key_from n =
    if n == 0 then Module
    else (if n == 1 then Function
    else (if n == 2 then If
    else (if n == 3 then Else
    else (if n == 4 then For
    else (if n == 5 then Let
    else (if n == 6 then Assert
    else (if n == 7 then Echo
    else (if n == 8 then Each
    else (if n == 9 then True
    else (if n == 10 then False
    else (if n == 11 then Undef
    else (if n == 12 then Include
    else Use))))))))))))

sign_again : (s : SignName) → sign_from (sign_number s) ≡ s
sign_again OpenRound = refl
sign_again CloseRound = refl
sign_again OpenSquare = refl
sign_again CloseSquare = refl
sign_again OpenCurly = refl
sign_again CloseCurly = refl
sign_again Semicolon = refl
sign_again Comma = refl
sign_again Colon = refl
sign_again Question = refl
sign_again Assign = refl
sign_again Equal = refl
sign_again NotEqual = refl
sign_again Less = refl
sign_again LessEqual = refl
sign_again Greater = refl
sign_again GreaterEqual = refl
sign_again Plus = refl
sign_again Minus = refl
sign_again Star = refl
sign_again Slash = refl
sign_again Percent = refl
sign_again Caret = refl
sign_again Bang = refl
sign_again AndAnd = refl
sign_again OrOr = refl
sign_again Hash = refl
sign_again Dot = refl

key_again : (k : KeyName) → key_from (key_number k) ≡ k
key_again Module = refl
key_again Function = refl
key_again If = refl
key_again Else = refl
key_again For = refl
key_again Let = refl
key_again Assert = refl
key_again Echo = refl
key_again Each = refl
key_again True = refl
key_again False = refl
key_again Undef = refl
key_again Include = refl
key_again Use = refl

same_sign : (found s : SignName) → sign_number found == sign_number s ≡ true → found ≡ s
same_sign found s h = sym (sign_again found)
    ∙ (ap sign_from (eqb-true (sign_number found) (sign_number s) h) ∙ sign_again s)

same_key : (found k : KeyName) → key_number found == key_number k ≡ true → found ≡ k
same_key found k h = sym (key_again found)
    ∙ (ap key_from (eqb-true (key_number found) (key_number k) h) ∙ key_again k)

sign_kind : (s : SignName) (kind : TokenKind) → is_sign_kind s kind ≡ true → kind ≡ Sign s
sign_kind s (Sign found) h = ap Sign (same_sign found s h)
sign_kind s (Number z) h = absurd (false≢true h)
sign_kind s (Str chars) h = absurd (false≢true h)
sign_kind s (Word w) h = absurd (false≢true h)
sign_kind s (Key k) h = absurd (false≢true h)

key_kind : (k : KeyName) (kind : TokenKind) → is_key_kind k kind ≡ true → kind ≡ Key k
key_kind k (Key found) h = ap Key (same_key found k h)
key_kind k (Number z) h = absurd (false≢true h)
key_kind k (Str chars) h = absurd (false≢true h)
key_kind k (Word w) h = absurd (false≢true h)
key_kind k (Sign s) h = absurd (false≢true h)

-- a token of this sign, of this key
pub is_the_sign : (s : SignName) (t : Token) → is_sign s t ≡ true → t ≡ sign s t.at
is_the_sign s t h = ap (λ kind. let u : Token = record { kind = kind; at = t.at } in u) (sign_kind s t.kind h)

pub is_the_key : (k : KeyName) (t : Token) → is_key k t ≡ true → t ≡ key k t.at
is_the_key k t h = ap (λ kind. let u : Token = record { kind = kind; at = t.at } in u) (key_kind k t.kind h)

word_is : (w : List ℕ) (kind : TokenKind) → word_kind kind ≡ Some w → kind ≡ Word w
word_is w (Word found) h = ap Word (same_Some found w h)
word_is w (Number z) h = absurd (none-some _ h)
word_is w (Str chars) h = absurd (none-some _ h)
word_is w (Sign s) h = absurd (none-some _ h)
word_is w (Key k) h = absurd (none-some _ h)

pub is_the_word : (w : List ℕ) (t : Token) → word_of t ≡ Some w → t ≡ word w t.at
is_the_word w t h = ap (λ kind. let u : Token = record { kind = kind; at = t.at } in u) (word_is w t.kind h)
