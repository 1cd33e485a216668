use Rattle.std.proofs.Common.{rules, arith, refl, subst, sym, All, map, ◌≡◌, ◌+◌, ◌-◌}
use Rattle.std.proofs.lemmas.List.Elements.{All-push}
use Rattle.layer_board.specs.Calls.{view, IsFresh, AreSplit, AreDealt}
use Rattle.layer_board.proofs.Dealing.{deals_more, deals_all, fresh_as}
use Rattle.layer_board.proofs.board.Board.new.Goals as goal

pub loop-made-preserved : goal.loop-made-preserved
loop-made-preserved c =
    let board = c.in_ok-board.board in
    let was = c.loop-made.invariant in
    let items = c.in_ok-push.ensures.items in
    let fresh = fresh_as board c.split.result (view c.loop-made.first).count 0 (view c.loop-made.first).given
    c.split.ensures.of.1 c.split.ensures.event.1 in (
      search rules,
      search rules,
      search rules,
      search rules,
      subst (All (IsFresh board)) (sym items) (All-push (IsFresh board) c.loop-made.passes.items c.split.result was.4
          fresh),
      search rules,
      subst (λ ps. AreSplit c.args.count (c.loop-made._made + 1 - 1) (view c.split.new.first) (map view ps)) (sym items)
          (deals_more c.args.count c.loop-made._made (view c.loop-made.first) (view c.split.new.first)
          c.loop-made.passes.items c.split.result c.loop-made.auto._made was.3 c.split.ensures.event.0
          c.split.ensures.event.1 was.6),
    )

pub returns-clause-splits : goal.returns-clause-splits
returns-clause-splits c =
    let was = c.loop-made.invariant in
    let all : c.loop-made._made ≡ c.args.workers = omega arith in
    subst (λ ps. AreDealt c.args.count c.args.workers (map view ps)) (sym c.in_ok-push-2.ensures.items)
    (deals_all c.args.count c.loop-made._made c.args.workers (view c.loop-made.first) c.loop-made.passes.items
    c.loop-made.first all refl was.6)

pub returns-clause-passes : goal.returns-clause-passes
returns-clause-passes c =
    let board = c.in_ok-board.board in
    let was = c.loop-made.invariant in
    let fresh = fresh_as board c.loop-made.first c.args.count c.loop-made._made 0 was.2 was.3 in (
      search rules,
      subst (All (IsFresh board)) (sym c.in_ok-push-2.ensures.items)
          (All-push (IsFresh board) c.loop-made.passes.items c.loop-made.first was.4 fresh),
    )
