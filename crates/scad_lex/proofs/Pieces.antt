-- A text piece by piece.
use Rattle.std.proofs.Common.{◌≡◌, ℕ, zero, suc, ◌+◌, ◌<◌, ◌≤◌, List, [], ◌∷◌, ◌++◌, Ok, Err, refl, ap, sym, ◌∙◌}
use Rattle.std.proofs.Common.{arith, take, drop, length, length-drop, length-take, append_assoc, cond, ◌==◌, Bool}
use Rattle.std.proofs.Common.{true, false}
use Rattle.scad_fault.specs.declared.place.Place.{Place}
use Rattle.scad_lex.specs.declared.token.Token.{Token}
use Rattle.scad_lex.specs.declared.token.TokenKind.{TokenKind}
use Rattle.scad_lex.specs.declared.front.Front.TheVariants.{Gap, Cut, Bad, TooLarge}
use Rattle.scad_lex.specs.declared.fault.LexFault.TheVariants.{BadText, Range, Memory}
use Rattle.scad_lex.specs.declared.fault.LexFault.{LexFault}
use Rattle.std.proofs.lemmas.List.{drop-drop, drop_all, append-nil}
use Rattle.scad_lex.specs.Front.{front_of}
use Rattle.scad_lex.specs.Tokens.{Answer, Refuses, next_line, next_col, next, after, onto, others, led_by}
use Rattle.scad_lex.specs.Tokens.{tokens_from}

pub onto-onto : (xs ys : List Token) (answer : Answer) → onto xs (onto ys answer) ≡ onto (xs ++ ys) answer
onto-onto xs ys (Ok found) = ap (λ zs. Ok (zs, found.1)) (sym (append_assoc xs ys found.0))
onto-onto xs ys (Err fault) = refl

-- the bytes of a piece that has begun are gone over
tokens_from-skip : (n : ℕ) (at : Place) (bytes : List ℕ) →
    tokens_from n at bytes ≡ tokens_from 0 (after at (take n bytes)) (drop n bytes)
tokens_from-skip zero at [] = refl
tokens_from-skip zero at (b ∷ bytes) = refl
tokens_from-skip (suc n) at [] = refl
tokens_from-skip (suc n) at (b ∷ bytes) = tokens_from-skip n (next at b) bytes

pub gap_at : (at : Place) (rest : List ℕ) (n : ℕ) → 0 < length rest → 0 < n → front_of rest ≡ Gap n →
    tokens_from 0 at rest ≡ tokens_from 0 (after at (take n rest)) (drop n rest)
gap_at at [] n some pos is = absurd (omega arith)
gap_at at (b ∷ rest) zero some pos is = absurd (omega arith)
gap_at at (b ∷ rest) (suc n) some pos is =
    ap (λ piece. led_by piece at (b ∷ rest) (tokens_from (others piece) (next at b) rest)) is
    ∙ tokens_from-skip n (next at b) rest

pub cut_at : (at : Place) (rest : List ℕ) (kind : TokenKind) (n : ℕ) → 0 < length rest → 0 < n →
    front_of rest ≡ Cut kind n →
    tokens_from 0 at rest ≡ onto (record { kind = kind; at = at } ∷ [])
    (tokens_from 0 (after at (take n rest)) (drop n rest))
cut_at at [] kind n some pos is = absurd (omega arith)
cut_at at (b ∷ rest) kind zero some pos is = absurd (omega arith)
cut_at at (b ∷ rest) kind (suc n) some pos is =
    ap (λ piece. led_by piece at (b ∷ rest) (tokens_from (others piece) (next at b) rest)) is
    ∙ ap (onto (record { kind = kind; at = at } ∷ [])) (tokens_from-skip n (next at b) rest)

pub bad_at : (at : Place) (rest : List ℕ) (n : ℕ) → 0 < length rest → front_of rest ≡ Bad n →
    tokens_from 0 at rest ≡ Err (BadText (after at (take n rest)))
bad_at at [] n some is = absurd (omega arith)
bad_at at (b ∷ rest) n some is =
    ap (λ piece. led_by piece at (b ∷ rest) (tokens_from (others piece) (next at b) rest)) is

pub large_at : (at : Place) (rest : List ℕ) → 0 < length rest → front_of rest ≡ TooLarge →
    tokens_from 0 at rest ≡ Err (Range at)
large_at at [] some is = absurd (omega arith)
large_at at (b ∷ rest) some is =
    ap (λ piece. led_by piece at (b ∷ rest) (tokens_from (others piece) (next at b) rest)) is

-- each byte takes a line or a column
next-line : (at : Place) (b : ℕ) → (next at b).line ≤ at.line + 1
next-line at b = by_feed (b == 10)
  where
    by_feed : (lf : Bool) → (cond lf (next_line at) (next_col at)).line ≤ at.line + 1
    by_feed true = omega arith
    by_feed false = omega arith

next-col : (at : Place) (b : ℕ) → (next at b).col ≤ at.col + 1
next-col at b = by_feed (b == 10)
  where
    by_feed : (lf : Bool) → (cond lf (next_line at) (next_col at)).col ≤ at.col + 1
    by_feed true = omega arith
    by_feed false = omega arith

pub after-line : (at : Place) (bytes : List ℕ) → (after at bytes).line ≤ at.line + length bytes
after-line at [] = omega arith
after-line at (b ∷ bytes) = omega (arith, after-line (next at b) bytes, next-line at b)

pub after-col : (at : Place) (bytes : List ℕ) → (after at bytes).col ≤ at.col + length bytes
after-col at [] = omega arith
after-col at (b ∷ bytes) = omega (arith, after-col (next at b) bytes, next-col at b)

-- what refuses the rest refuses the text
pub refused_later : (xs : List Token) (answer whole : Answer) (fault : LexFault) → onto xs answer ≡ whole →
    Refuses answer fault → Refuses whole fault
refused_later xs answer whole (BadText place) so_far is = sym so_far ∙ ap (onto xs) is
refused_later xs answer whole (Range place) so_far is = sym so_far ∙ ap (onto xs) is
refused_later xs answer whole Memory so_far is = tt

-- a piece of the rest is read
pub piece_read : (text rest : List ℕ) (done n : ℕ) (at : Place) (old new : List Token) (whole : Answer) →
    rest ≡ drop done text → onto old (tokens_from 0 at (drop done text)) ≡ whole →
    onto new (tokens_from 0 (after at (take n rest)) (drop n rest)) ≡ onto old (tokens_from 0 at rest) →
    onto new (tokens_from 0 (after at (take n rest)) (drop (done + n) text)) ≡ whole
piece_read text rest done n at old new whole is so_far read =
    ap (λ r. onto new (tokens_from 0 (after at (take n rest)) r)) (sym (drop-drop n done text) ∙ ap (drop n) (sym is))
    ∙ read ∙ ap (λ r. onto old (tokens_from 0 at r)) is ∙ so_far

-- nothing is left
pub end_read : (text : List ℕ) (done : ℕ) (at : Place) (tokens : List Token) (whole : Answer) → length text ≤ done →
    onto tokens (tokens_from 0 at (drop done text)) ≡ whole → Ok (tokens, at) ≡ whole
end_read text done at tokens whole past so_far =
    ap (λ ts. Ok (ts, at)) (sym (append-nil tokens))
    ∙ ap (λ r. onto tokens (tokens_from 0 at r)) (sym (drop_all done text past)) ∙ so_far

-- lines and columns are no more than the bytes before them
pub room_left : (text rest : List ℕ) (done n here there : ℕ) → rest ≡ drop done text →
    there ≤ here + length (take n rest) → here + length (drop done text) ≤ 1 + length text →
    there + length (drop (done + n) text) ≤ 1 + length text
room_left text rest done n here there is moved room =
    omega (arith, ap length is, length-drop done text, length-drop (done + n) text, length-take n rest)
