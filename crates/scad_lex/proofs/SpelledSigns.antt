-- A sign or a keyword before a blank is cut as it is spelled.
use Rattle.std.proofs.Common.{◌≡◌, ℕ, Bool, true, false, List, ◌∷◌, ◌++◌, length, refl}
use Rattle.scad_num.specs.Literal.{literal_len, mantissa_len, exponent_len}
use Rattle.scad_lex.specs.declared.token.TokenKind.TheVariants.{Sign, Key}
use Rattle.scad_lex.specs.declared.token.Sign.{Sign as SignName}
use Rattle.scad_lex.specs.declared.token.Sign.TheVariants.{OpenRound, CloseRound, OpenSquare, CloseSquare, OpenCurly}
use Rattle.scad_lex.specs.declared.token.Sign.TheVariants.{CloseCurly, Semicolon, Comma, Colon, Question, Assign}
use Rattle.scad_lex.specs.declared.token.Sign.TheVariants.{Equal, NotEqual, Less, LessEqual, Greater, GreaterEqual}
use Rattle.scad_lex.specs.declared.token.Sign.TheVariants.{Plus, Minus, Star, Slash, Percent, Caret, Bang, AndAnd}
use Rattle.scad_lex.specs.declared.token.Sign.TheVariants.{OrOr, Hash, Dot}
use Rattle.scad_lex.specs.declared.token.Key.{Key as KeyName}
use Rattle.scad_lex.specs.declared.token.Key.TheVariants.{Module, Function, If, Else, For, Let, Assert, Echo, Each}
use Rattle.scad_lex.specs.declared.token.Key.TheVariants.{True, False, Undef, Include, Use}
use Rattle.scad_lex.specs.declared.front.Front.TheVariants.{Cut}
use Rattle.scad_lex.specs.Front.{front_of, sign_of, word_of}
use Rattle.scad_lex.specs.Words.{word_len}
use Rattle.scad_lex.specs.Signs.{two_byte_sign, one_byte_sign, mark_sign, operator_sign}
use Rattle.scad_lex.specs.Keys.{key_of, numbered_key}
use Rattle.scad_lex.specs.Spelling.{sign_spelling, key_spelling, blank_behind}

pub sign_front : (s : SignName) (b : Bool) (rest : List ℕ) →
    front_of (sign_spelling s ++ blank_behind b ∷ rest) ≡ Cut (Sign s) (length (sign_spelling s))
unfolding front_of literal_len mantissa_len exponent_len word_len two_byte_sign one_byte_sign mark_sign operator_sign
    sign_of
sign_front OpenRound true rest = refl
sign_front OpenRound false rest = refl
sign_front CloseRound true rest = refl
sign_front CloseRound false rest = refl
sign_front OpenSquare true rest = refl
sign_front OpenSquare false rest = refl
sign_front CloseSquare true rest = refl
sign_front CloseSquare false rest = refl
sign_front OpenCurly true rest = refl
sign_front OpenCurly false rest = refl
sign_front CloseCurly true rest = refl
sign_front CloseCurly false rest = refl
sign_front Semicolon true rest = refl
sign_front Semicolon false rest = refl
sign_front Comma true rest = refl
sign_front Comma false rest = refl
sign_front Colon true rest = refl
sign_front Colon false rest = refl
sign_front Question true rest = refl
sign_front Question false rest = refl
sign_front Assign true rest = refl
sign_front Assign false rest = refl
sign_front Equal true rest = refl
sign_front Equal false rest = refl
sign_front NotEqual true rest = refl
sign_front NotEqual false rest = refl
sign_front Less true rest = refl
sign_front Less false rest = refl
sign_front LessEqual true rest = refl
sign_front LessEqual false rest = refl
sign_front Greater true rest = refl
sign_front Greater false rest = refl
sign_front GreaterEqual true rest = refl
sign_front GreaterEqual false rest = refl
sign_front Plus true rest = refl
sign_front Plus false rest = refl
sign_front Minus true rest = refl
sign_front Minus false rest = refl
sign_front Star true rest = refl
sign_front Star false rest = refl
sign_front Slash true rest = refl
sign_front Slash false rest = refl
sign_front Percent true rest = refl
sign_front Percent false rest = refl
sign_front Caret true rest = refl
sign_front Caret false rest = refl
sign_front Bang true rest = refl
sign_front Bang false rest = refl
sign_front AndAnd true rest = refl
sign_front AndAnd false rest = refl
sign_front OrOr true rest = refl
sign_front OrOr false rest = refl
sign_front Hash true rest = refl
sign_front Hash false rest = refl
sign_front Dot true rest = refl
sign_front Dot false rest = refl

pub key_front : (k : KeyName) (b : Bool) (rest : List ℕ) →
    front_of (key_spelling k ++ blank_behind b ∷ rest) ≡ Cut (Key k) (length (key_spelling k))
unfolding front_of literal_len mantissa_len exponent_len word_len key_of numbered_key word_of
key_front Module true rest = refl
key_front Module false rest = refl
key_front Function true rest = refl
key_front Function false rest = refl
key_front If true rest = refl
key_front If false rest = refl
key_front Else true rest = refl
key_front Else false rest = refl
key_front For true rest = refl
key_front For false rest = refl
key_front Let true rest = refl
key_front Let false rest = refl
key_front Assert true rest = refl
key_front Assert false rest = refl
key_front Echo true rest = refl
key_front Echo false rest = refl
key_front Each true rest = refl
key_front Each false rest = refl
key_front True true rest = refl
key_front True false rest = refl
key_front False true rest = refl
key_front False false rest = refl
key_front Undef true rest = refl
key_front Undef false rest = refl
key_front Include true rest = refl
key_front Include false rest = refl
key_front Use true rest = refl
key_front Use false rest = refl
