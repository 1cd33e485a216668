-- A piece that goes to an output whole or in part, and a text that goes there piece by piece.
use Rattle.std.specs.Prelude.{◌≡◌, ◌<◌, ℕ, true, false, List, ◌++◌, length, take, Result, MatchResult}
use Rattle.scad_io.specs.Desk.{View, sent}
use Rattle.scad_io.specs.declared.desk.Out.{Out}

-- a front of the piece went out, but not all of it, and the output has failed
pub record SentPartly (out : Out) (piece : List ℕ) (old new : View) : Type 0 where
  pub count : ℕ
  pub proper : count < length piece
  pub view : new ≡ sent out (take count piece) true old

-- the piece went out whole, or in part where the answer is an error
abbrev pub Writes : {E : Type 0} → Out → List ℕ → Result (Unit {0}) E → View → View → Type 0
Writes out piece r old new =
    MatchResult r (λ _. new ≡ sent out piece false old) (λ _. SentPartly out piece old new)

-- of a text that goes out piece by piece, all but this rest went out
pub record SentBut (out : Out) (text rest : List ℕ) (old now : View) : Type 0 where
  pub front : List ℕ
  pub parts : front ++ rest ≡ text
  pub view : now ≡ sent out front false old
