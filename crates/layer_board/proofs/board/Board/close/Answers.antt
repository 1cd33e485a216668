use Rattle.std.proofs.Common.{subst, arith}
use Rattle.layer_board.specs.Calls.{Closed, view}
use Rattle.layer_board.proofs.Table.{closes_table}
use Rattle.layer_board.proofs.board.Board.close.Goals as goal

pub overflow_cast-result : goal.overflow_cast-result
overflow_cast-result c =
    let t = closes_table _ _ _ _ _ _ c.close_with-closed.ensures.values.2 c.word-least.ensures c.requires.ended
    c.requires.all in
    let a = t.1 in let b = t.2 in record { fits = omega arith }

pub returns-clause-closed : goal.returns-clause-closed
returns-clause-closed c =
    let t = closes_table _ _ _ _ _ _ c.close_with-closed.ensures.values.2 c.word-least.ensures c.requires.ended
    c.requires.all in
    subst (λ n. Closed n c.word-least.result (view c.args.pass)) c.args.self.counts t.0

pub returns-clause-within : goal.returns-clause-within
returns-clause-within c =
    let t = closes_table _ _ _ _ _ _ c.close_with-closed.ensures.values.2 c.word-least.ensures c.requires.ended
    c.requires.all in
    let a = t.1 in let b = c.args.self.counts in omega arith
