use Rattle.std.proofs.Common.{◌∙◌, ap, sym, rules, Some}
use Rattle.layer_board.proofs.Table.{fails_step}
use Rattle.layer_board.proofs.board.Board.fail.Goals as goal

pub fetch_min-requires : goal.fetch_min-requires
fetch_min-requires c = (
  search rules,
  search rules,
  fails_step _ _ _ c.args.pass.now.seat.me c.from.result
      (c.requires.pending ∙ ap Some (sym c.from.ensures)),
)
