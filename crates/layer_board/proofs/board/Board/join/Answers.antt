use Rattle.std.proofs.Common.{rules}
use Rattle.layer_board.proofs.Table.{joins_step, counts_step}
use Rattle.layer_board.proofs.board.Board.join.Goals as goal

pub join_seat-requires : goal.join_seat-requires
join_seat-requires c = (
  search rules,
  search rules,
  search rules,
  search rules,
  joins_step _ _ _ _ _
      c.args.pass.now.live c.args.other.live c.requires.free c.requires.other_free,
)

pub load-requires : goal.load-requires
load-requires c = (search rules, search rules, counts_step _ _ _ _)
