-- The tokens of a text: it is cut into tokens, blanks and comments, each the longest that begins at its place.
use Prim.Native.Char.{code}
use Rattle.std.specs.Prelude.{◌≡◌, ℕ, zero, suc, pred, ◌+◌, ◌++◌, List, [], ◌∷◌, Result, Ok, Err, nat_eq, ◌==◌}
use Rattle.std.specs.Prelude.{if◌then◌else◌, take, drop}
use Rattle.std.specs.List.{starts_with}
use Rattle.scad_fault.specs.declared.place.Place.{Place}
pub use Rattle.scad_fault.specs.Place.{first_place as start}
use Rattle.scad_lex.specs.declared.fault.LexFault.{LexFault}
use Rattle.scad_lex.specs.declared.fault.LexFault.TheVariants.{BadText, Range, Memory}
use Rattle.scad_lex.specs.declared.token.Token.{Token}
use Rattle.scad_lex.specs.declared.front.Front.{Front}
use Rattle.scad_lex.specs.declared.front.Front.TheVariants.{Gap, Cut, Bad, TooLarge}
use Rattle.scad_lex.specs.Front.{front_of}

abbrev pub next_line : Place → Place
next_line at = record { line = at.line + 1; col = 1 }

abbrev pub next_col : Place → Place
next_col at = record { line = at.line; col = at.col + 1 }

-- the place behind a byte: a line feed begins a line, each other byte takes a column
abbrev pub next : Place → ℕ → Place
next at b = if b == code "\n" then next_line at else next_col at

-- the place behind bytes
abbrev pub after : Place → List ℕ → Place
after at [] = at
after at (b ∷ bytes) = after (next at b) bytes

-- a leading byte order mark takes no column
abbrev pub without_mark : List ℕ → List ℕ
without_mark bytes = if starts_with nat_eq bytes (0xEF ∷ 0xBB ∷ 0xBF ∷ []) then drop 3 bytes else bytes

-- tokens and the place behind the last byte, or the first refused place
abbrev pub Answer : Type 0
Answer = Result (List Token × Place) LexFault

-- the answer to a text that begins with these tokens
abbrev pub onto : List Token → Answer → Answer
onto tokens (Ok found) = Ok (tokens ++ found.0, found.1)
onto tokens (Err fault) = Err fault

-- how many bytes a piece has besides its first
abbrev pub others : Front → ℕ
others (Gap n) = pred n
others (Cut kind n) = pred n
others (Bad n) = 0
others TooLarge = 0

-- the answer to bytes at a place that begin with a piece, with the answer to what stands behind the piece
abbrev pub led_by : Front → Place → List ℕ → Answer → Answer
led_by (Gap n) at bytes later = later
led_by (Cut kind n) at bytes later = onto (record { kind = kind; at = at } ∷ []) later
led_by (Bad n) at bytes later = Err (BadText (after at (take n bytes)))
led_by TooLarge at bytes later = Err (Range at)

-- the answer to bytes at a place, where the first bytes, so many, belong to a piece that has begun
abbrev pub tokens_from : ℕ → Place → List ℕ → Answer
tokens_from n at [] = Ok ([], at)
tokens_from zero at (b ∷ bytes) =
    let piece = front_of (b ∷ bytes) in
    led_by piece at (b ∷ bytes) (tokens_from (others piece) (next at b) bytes)
tokens_from (suc n) at (b ∷ bytes) = tokens_from n (next at b) bytes

abbrev pub tokens : List ℕ → Answer
tokens bytes = tokens_from 0 start (without_mark bytes)

-- the text is refused so, or there was no memory
abbrev pub Refuses : Answer → LexFault → Type 0
Refuses answer Memory = Unit {0}
Refuses answer (BadText place) = answer ≡ Err (BadText place)
Refuses answer (Range place) = answer ≡ Err (Range place)
