use Rattle.std.proofs.Common.{rules, arith, lt-ltb}
use Rattle.layer_board.proofs.Counts.{lowest_at}
use Rattle.layer_board.proofs.Table.{looks_step}
use Rattle.layer_board.proofs.board.Board.look.Goals as goal

pub load-least-requires : goal.load-least-requires
load-least-requires c = let pass = c.args.pass.now in (search rules, search rules, looks_step _ _ _ pass.seat.me c.args.n c.requires.pending pass.live)

pub returns-clause-failed : goal.returns-clause-failed
returns-clause-failed c = λ m t h.
    let v = c.args.pass.now.seat.me.0 in
    let a = c.load-least.ensures.2.failed in
    let b = lowest_at v.count m v.failed t in
    let e = c.from.ensures in lt-ltb _ _ (omega arith)
