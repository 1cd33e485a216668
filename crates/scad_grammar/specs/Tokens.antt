-- Tokens as the grammar tells them apart.
use Rattle.std.specs.Prelude.{ℕ, ℤ, Bool, false, List, [], ◌∷◌, Option, Some, None, ◌==◌, if◌then◌else◌}
use Rattle.scad_fault.specs.declared.place.Place.{Place}
use Rattle.scad_lex.specs.declared.token.Token.{Token}
use Rattle.scad_lex.specs.declared.token.TokenKind.{TokenKind}
use Rattle.scad_lex.specs.declared.token.TokenKind.TheVariants.{Number, Str, Word, Sign, Key}
use Rattle.scad_lex.specs.declared.token.Sign.{Sign as SignName}
use Rattle.scad_lex.specs.declared.token.Sign.TheVariants.{OpenRound, CloseRound, OpenSquare, CloseSquare, OpenCurly}
use Rattle.scad_lex.specs.declared.token.Sign.TheVariants.{CloseCurly, Semicolon, Comma, Colon, Question, Assign}
use Rattle.scad_lex.specs.declared.token.Sign.TheVariants.{Equal, NotEqual, Less, LessEqual, Greater, GreaterEqual}
use Rattle.scad_lex.specs.declared.token.Sign.TheVariants.{Plus, Minus, Star, Slash, Percent, Caret, Bang, AndAnd}
use Rattle.scad_lex.specs.declared.token.Sign.TheVariants.{OrOr, Hash, Dot}
use Rattle.scad_lex.specs.declared.token.Key.{Key as KeyName}
use Rattle.scad_lex.specs.declared.token.Key.TheVariants.{Module, Function, If, Else, For, Let, Assert, Echo, Each}
use Rattle.scad_lex.specs.declared.token.Key.TheVariants.{True, False, Undef, Include, Use}
use Rattle.scad_ast.specs.declared.operator.BinOp.{BinOp}
use Rattle.scad_ast.specs.declared.operator.BinOp.TheVariants.{Or, And, Eq, Ne, Lt, Le, Gt, Ge, Add, Sub, Mul, Div}
use Rattle.scad_ast.specs.declared.operator.BinOp.TheVariants.{Rem}

abbrev pub sign : SignName → Place → Token
sign s at = record { kind = Sign s; at = at }

abbrev pub key : KeyName → Place → Token
key k at = record { kind = Key k; at = at }

abbrev pub word : List ℕ → Place → Token
word w at = record { kind = Word w; at = at }

abbrev pub numeral : ℤ → Place → Token
numeral z at = record { kind = Number z; at = at }

abbrev pub quoted : List ℕ → Place → Token
quoted chars at = record { kind = Str chars; at = at }

-- signs and keys told apart by a number of their own
abbrev pub sign_number : SignName → ℕ
sign_number OpenRound = 0
sign_number CloseRound = 1
sign_number OpenSquare = 2
sign_number CloseSquare = 3
sign_number OpenCurly = 4
sign_number CloseCurly = 5
sign_number Semicolon = 6
sign_number Comma = 7
sign_number Colon = 8
sign_number Question = 9
sign_number Assign = 10
sign_number Equal = 11
sign_number NotEqual = 12
sign_number Less = 13
sign_number LessEqual = 14
sign_number Greater = 15
sign_number GreaterEqual = 16
sign_number Plus = 17
sign_number Minus = 18
sign_number Star = 19
sign_number Slash = 20
sign_number Percent = 21
sign_number Caret = 22
sign_number Bang = 23
sign_number AndAnd = 24
sign_number OrOr = 25
sign_number Hash = 26
sign_number Dot = 27

abbrev pub key_number : KeyName → ℕ
key_number Module = 0
key_number Function = 1
key_number If = 2
key_number Else = 3
key_number For = 4
key_number Let = 5
key_number Assert = 6
key_number Echo = 7
key_number Each = 8
key_number True = 9
key_number False = 10
key_number Undef = 11
key_number Include = 12
key_number Use = 13

abbrev pub is_sign_kind : SignName → TokenKind → Bool
is_sign_kind s (Sign found) = sign_number found == sign_number s
is_sign_kind s _ = false

abbrev pub is_key_kind : KeyName → TokenKind → Bool
is_key_kind k (Key found) = key_number found == key_number k
is_key_kind k _ = false

-- the token is this sign, this key
abbrev pub is_sign : SignName → Token → Bool
is_sign s t = is_sign_kind s t.kind

abbrev pub is_key : KeyName → Token → Bool
is_key k t = is_key_kind k t.kind

abbrev pub word_kind : TokenKind → Option (List ℕ)
word_kind (Word w) = Some w
word_kind _ = None

-- the word that the token is
abbrev pub word_of : Token → Option (List ℕ)
word_of t = word_kind t.kind

-- the first token is this sign, this key
abbrev pub begins_with : SignName → List Token → Bool
begins_with s [] = false
begins_with s (t ∷ ts) = is_sign s t

abbrev pub begins_with_key : KeyName → List Token → Bool
begins_with_key k [] = false
begins_with_key k (t ∷ ts) = is_key k t

-- the operator between two operands that a sign is
abbrev pub operator_sign : SignName → Option BinOp
operator_sign OrOr = Some Or
operator_sign AndAnd = Some And
operator_sign Equal = Some Eq
operator_sign NotEqual = Some Ne
operator_sign Less = Some Lt
operator_sign LessEqual = Some Le
operator_sign Greater = Some Gt
operator_sign GreaterEqual = Some Ge
operator_sign Plus = Some Add
operator_sign Minus = Some Sub
operator_sign Star = Some Mul
operator_sign Slash = Some Div
operator_sign Percent = Some Rem
operator_sign _ = None

-- the grammar's lines of operators, counted from the tightest: mul 0, add 1, rel 2, eq 3, and 4, or 5
abbrev pub line_of : BinOp → ℕ
line_of Or = 5
line_of And = 4
line_of Eq = 3
line_of Ne = 3
line_of Lt = 2
line_of Le = 2
line_of Gt = 2
line_of Ge = 2
line_of Add = 1
line_of Sub = 1
line_of Mul = 0
line_of Div = 0
line_of Rem = 0

abbrev pub on_line : ℕ → Option BinOp → Option BinOp
on_line line None = None
on_line line (Some op) = if line_of op == line then Some op else None

abbrev pub operator_kind : ℕ → TokenKind → Option BinOp
operator_kind line (Sign s) = on_line line (operator_sign s)
operator_kind line _ = None

-- the operator of a line that a token is
abbrev pub operator : ℕ → Token → Option BinOp
operator line t = operator_kind line t.kind

-- the operator of a line with which tokens begin
abbrev pub first_operator : ℕ → List Token → Option BinOp
first_operator line [] = None
first_operator line (t ∷ ts) = operator line t
