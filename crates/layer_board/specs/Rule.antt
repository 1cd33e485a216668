-- The rule of the table of two words, next and least, and of its passes; and what each step tells its pass.
use Rattle.std.specs.Prelude.{◌≡◌, ℕ, ◌<◌, ◌≤◌, length, All, slice_index}
use Rattle.atomic_table.specs.Table.{State, Me, Step}
use Rattle.layer_board.specs.declared.view.View.{View}
use Rattle.layer_board.specs.declared.view.Size.{Size}
use Rattle.layer_board.specs.Limits.{worker_limit}
use Rattle.layer_board.specs.Numbers.{lowest}
use Rattle.layer_board.specs.Pass.{claims, looks, fails, finishes}
use Rattle.layer_board.specs.Events.{BoardState}
use Rattle.layer_board.specs.Sound.{IsSound, given_of}

-- the table as a board
abbrev pub board_of : State (Unit {0}) View → BoardState
board_of s = record { next = slice_index s.words 0; least = slice_index s.words 1; passes = s.views }

pub record IsBoard (size : Size) (s : State (Unit {0}) View) : Type 0 where
  pub words : length s.words ≡ 2
  pub layers : size.count < 4294967296
  pub workers : size.workers ≤ worker_limit
  -- no more members than workers
  pub given : given_of s.views ≤ size.workers
  pub sound : IsSound size.count (board_of s)

module _ (st : Step (Unit {0})) (me : Me (Unit {0}) View) (found : ℕ) (me' : Me (Unit {0}) View) where
  -- the event Claim at the number found, which lies above all that the pass drew before; no more are drawn than there are
  pub record Claimed : Type 0 where
    pub event : me' ≡ (claims found me.0, me.1)
    pub ascends : All (λ d. d < found) me.0.drawn
    pub few : length me'.0.drawn ≤ me.0.count

  -- the event Look at the number found, which is at most each layer that the pass failed
  pub record Looked : Type 0 where
    pub event : me' ≡ (looks found me.0, me.1)
    pub failed : found ≤ lowest me.0.count me.0.failed

  abbrev pub Failed : Type 0
  Failed = me' ≡ (fails me.0, me.1)

  abbrev pub Finished : Type 0
  Finished = me' ≡ (finishes me.0, me.1)

  -- no event: a pass has no more members than a board may have workers
  pub record Counted : Type 0 where
    pub event : me' ≡ me
    pub few : length me.0.members ≤ worker_limit
