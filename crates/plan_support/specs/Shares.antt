-- What one worker has done of lines, or several have together.
use Rattle.std.specs.Prelude.{◌≡◌, ℕ, ◌<◌, List, map, length, slice_index_or, ℤ, pos, All}
use Rattle.layer_board.specs.declared.board.Board.{Board}
use Rattle.layer_board.specs.declared.share.Share.{Share}
use Rattle.layer_board.specs.Calls.{view, IsThrough}
use Rattle.plan_support.specs.declared.line.Line.{Line}
use Rattle.plan_support.specs.declared.line.Want.{Want}
use Rattle.plan_support.specs.Rows.{Row}
use Rattle.plan_support.specs.Lines.{HasLine}

-- the work on the line that a number names
pub record IsOwnLine (layers : List (List Row)) (heights : List ℤ) (want : Want) (line : Line) : Type 0 where
  pub there : line.number < length heights
  pub has : HasLine layers (slice_index_or heights line.number (pos 0)) want line

module _ (board : Board) (layers : List (List Row)) (heights : List ℤ) (want : Want) where
  -- the lines that a pass has drawn, each once
  pub record IsShare (s : Share Line) : Type 0 where
    pub through : IsThrough board s.pass
    pub noted : (view s.pass).drawn ≡ map (λ l. l.number) s.done.items
    pub own : All (IsOwnLine layers heights want) s.done.items

  -- the passes of so many workers are one
  pub record IsPool (workers : ℕ) (s : Share Line) : Type 0 where
    pub share : IsShare s
    pub members : length (view s.pass).members ≡ workers
