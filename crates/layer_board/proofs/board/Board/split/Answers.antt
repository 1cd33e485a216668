use Rattle.std.proofs.Common.{rules}
use Rattle.layer_board.proofs.Table.{splits_step}
use Rattle.layer_board.proofs.board.Board.split.Goals as goal

pub split_seat-seat-requires : goal.split_seat-seat-requires
split_seat-seat-requires c = (search rules, search rules, splits_step _ _ _ c.requires.first c.requires.room)
