-- What a token does to a reader: it goes on, or the token is of a form that is left out, or it may not stand there.
use Rattle.std.specs.Prelude.{ℕ, List}
use Rattle.scad_grammar.specs.State.{State}

pub data Move : Type 0 where
  go : State → Move
  left_out : List ℕ → Move
  stuck : Move
