use Rattle.std.proofs.Common.{sym, ◌∙◌, rules}
use Rattle.layer_board.proofs.Table.{claims_step}
use Rattle.layer_board.proofs.board.Board.claim.Goals as goal

pub fetch_add-found-requires : goal.fetch_add-found-requires
fetch_add-found-requires c = let pass = c.args.pass.now in (search rules, search rules, claims_step _ _ _ pass.seat.me pass.live c.requires.free (sym pass.ends ∙ c.if-pass.false))
