-- A text is refused for what stands in it, and never for want of memory.
use Rattle.std.proofs.Common.{ℕ, zero, suc, List, [], ◌∷◌, Ok, Err}
use Rattle.scad_fault.specs.declared.place.Place.{Place}
use Rattle.scad_lex.specs.declared.fault.LexFault.TheVariants.{BadText, Range, Memory}
use Rattle.scad_lex.specs.declared.front.Front.{Front}
use Rattle.scad_lex.specs.declared.front.Front.TheVariants.{Gap, Cut, Bad, TooLarge}
use Rattle.scad_lex.specs.declared.token.Token.{Token}
use Rattle.scad_lex.specs.Front.{front_of}
use Rattle.scad_lex.specs.Tokens.{Answer, onto, others, next, led_by, tokens_from, tokens, without_mark, start}

-- it has tokens, or a refused place
abbrev pub IsOfText : Answer → Type 0
IsOfText (Ok found) = Unit {0}
IsOfText (Err (BadText at)) = Unit {0}
IsOfText (Err (Range at)) = Unit {0}
IsOfText (Err Memory) = ⊥

of_text-onto : (tokens : List Token) (answer : Answer) → IsOfText answer → IsOfText (onto tokens answer)
of_text-onto tokens (Ok found) is = tt
of_text-onto tokens (Err (BadText at)) is = tt
of_text-onto tokens (Err (Range at)) is = tt
of_text-onto tokens (Err Memory) is = is

of_text-led : (piece : Front) (at : Place) (bytes : List ℕ) (later : Answer) → IsOfText later
    → IsOfText (led_by piece at bytes later)
of_text-led (Gap n) at bytes later is = is
of_text-led (Cut kind n) at bytes later is = of_text-onto (record { kind = kind; at = at } ∷ []) later is
of_text-led (Bad n) at bytes later is = tt
of_text-led TooLarge at bytes later is = tt

of_text-from : (n : ℕ) (at : Place) (bytes : List ℕ) → IsOfText (tokens_from n at bytes)
of_text-from n at [] = tt
of_text-from zero at (b ∷ bytes) =
    let piece = front_of (b ∷ bytes) in
    of_text-led piece at (b ∷ bytes) (tokens_from (others piece) (next at b) bytes)
    (of_text-from (others piece) (next at b) bytes)
of_text-from (suc n) at (b ∷ bytes) = of_text-from n (next at b) bytes

pub of_text-tokens : (bytes : List ℕ) → IsOfText (tokens bytes)
of_text-tokens bytes = of_text-from 0 start (without_mark bytes)
