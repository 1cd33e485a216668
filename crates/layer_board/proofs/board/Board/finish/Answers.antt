use Rattle.std.proofs.Common.{rules}
use Rattle.layer_board.proofs.Table.{finishes_step}
use Rattle.layer_board.proofs.board.Board.finish.Goals as goal

pub load-requires : goal.load-requires
load-requires c = (search rules, search rules, finishes_step _ _ _ c.args.pass.now.seat.me c.args.n c.requires.pending)
