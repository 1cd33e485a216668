-- What several workers have done of a round together.
use Rattle.std.specs.Prelude.{◌≡◌, ℕ, length}
use Rattle.layer_board.specs.declared.board.Board.{Board}
use Rattle.layer_board.specs.declared.share.Share.{Share}
use Rattle.layer_board.specs.Calls.{view}
use Rattle.slice_work.specs.declared.layer.Drawn.{Drawn}
use Rattle.slice_work.specs.Shares.{IsShare}

-- the passes of so many workers are one
pub record IsPool (board : Board) (first workers : ℕ) (s : Share Drawn) : Type 0 where
  pub share : IsShare board first s
  pub members : length (view s.pass).members ≡ workers
