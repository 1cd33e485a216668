-- Signs, the longer ones first.
use Prim.Native.Char.{code}
use Rattle.std.specs.Prelude.{ℕ, ◌&&◌, Option, Some, None, ◌==◌, if◌then◌else◌}
use Rattle.scad_lex.specs.declared.token.Sign.{Sign}
use Rattle.scad_lex.specs.declared.token.Sign.TheVariants.{OpenRound, CloseRound, OpenSquare, CloseSquare, OpenCurly}
use Rattle.scad_lex.specs.declared.token.Sign.TheVariants.{CloseCurly, Semicolon, Comma, Colon, Question, Assign}
use Rattle.scad_lex.specs.declared.token.Sign.TheVariants.{Equal, NotEqual, Less, LessEqual, Greater, GreaterEqual}
use Rattle.scad_lex.specs.declared.token.Sign.TheVariants.{Plus, Minus, Star, Slash, Percent, Caret, Bang, AndAnd}
use Rattle.scad_lex.specs.declared.token.Sign.TheVariants.{OrOr, Hash, Dot}

-- == != <= >= && ||
unfoldable pub two_byte_sign : ℕ → ℕ → Option Sign
two_byte_sign a b =
    if a == code "=" && b == code "=" then Some Equal
    else (if a == code "!" && b == code "=" then Some NotEqual
    else (if a == code "<" && b == code "=" then Some LessEqual
    else (if a == code ">" && b == code "=" then Some GreaterEqual
    else (if a == code "&" && b == code "&" then Some AndAnd
    else (if a == code "|" && b == code "|" then Some OrOr
    else None)))))

-- ( ) [ ] { } ; , : ?
unfoldable pub mark_sign : ℕ → Option Sign
mark_sign a =
    if a == code "(" then Some OpenRound
    else (if a == code ")" then Some CloseRound
    else (if a == code "[" then Some OpenSquare
    else (if a == code "]" then Some CloseSquare
    else (if a == code "{" then Some OpenCurly
    else (if a == code "}" then Some CloseCurly
    else (if a == code ";" then Some Semicolon
    else (if a == code "," then Some Comma
    else (if a == code ":" then Some Colon
    else (if a == code "?" then Some Question
    else None)))))))))

-- = < > + - * / % ^ ! # .
unfoldable pub operator_sign : ℕ → Option Sign
operator_sign a =
    if a == code "=" then Some Assign
    else (if a == code "<" then Some Less
    else (if a == code ">" then Some Greater
    else (if a == code "+" then Some Plus
    else (if a == code "-" then Some Minus
    else (if a == code "*" then Some Star
    else (if a == code "/" then Some Slash
    else (if a == code "%" then Some Percent
    else (if a == code "^" then Some Caret
    else (if a == code "!" then Some Bang
    else (if a == code "#" then Some Hash
    else (if a == code "." then Some Dot
    else None)))))))))))

abbrev pub first_some : Option Sign → Option Sign → Option Sign
first_some (Some s) other = Some s
first_some None other = other

-- the sign of one byte
unfoldable pub one_byte_sign : ℕ → Option Sign
one_byte_sign a = first_some (mark_sign a) (operator_sign a)
