-- One worker does what its share is, and two groups what both have done.
use Rattle.std.proofs.Common.{◌≡◌, ◌+◌, vec_len, sym, subst, ◌∙◌, All, rules}
use Rattle.std.proofs.lemmas.Result.{IfOk-at_ok}
use Rattle.layer_board.specs.Calls.{IsFresh}
use Rattle.plan_support.specs.Shares.{IsPool}
use Rattle.plan_support.proofs.GroupPool.{pooled, one_pool, of_last}
use Rattle.plan_support.proofs.workers.+fn-pool-join+arg2+fn-pool-join+arg3+pool.Goals as goal

pub together-requires-clause-a : goal.together-requires-clause-a
together-requires-clause-a g t c =
    let pool = IsPool c.args.board.now c.args.layers.now c.args.heights.now c.args.crew.want in
    (IfOk-at_ok (pool _) c.in_ok-a.was c.join-a.ensures.first).share.through

pub together-requires-clause-b : goal.together-requires-clause-b
together-requires-clause-b g t c =
    let pool = IsPool c.args.board.now c.args.layers.now c.args.heights.now c.args.crew.want in
    (IfOk-at_ok (pool _) c.in_ok-b.was c.join-a.ensures.second).share.through

pub returns : goal.returns
returns g t c =
    let pool = IsPool c.args.board.now c.args.layers.now c.args.heights.now c.args.crew.want in
    let low = c.split_off.new.self in
    let high = c.in_ok-high.high in
    let all : vec_len c.args.crew.passes ≡ vec_len low + vec_len high = search rules in
    pooled c.args.board.now c.args.layers.now c.args.heights.now c.args.crew.want (vec_len low) (vec_len high)
    c.in_ok-a.field-0 c.in_ok-b.field-0
    (IfOk-at_ok (pool (vec_len low)) c.in_ok-a.was c.join-a.ensures.first)
    (IfOk-at_ok (pool (vec_len high)) c.in_ok-b.was c.join-a.ensures.second)
    c.together.result (vec_len c.args.crew.passes) all c.together.ensures.through c.together.ensures.joined
    c.together.ensures.done

pub share-requires-clause-of : goal.share-requires-clause-of
share-requires-clause-of g t c =
    let IsNew = IsFresh c.args.board.now in
    let fresh = of_last IsNew c.pop.new.self.items c.in-Some.pass
    (subst (All IsNew) c.in-Some.ensures.items c.requires.fresh) in
    fresh.of

pub share-requires-clause-empty : goal.share-requires-clause-empty
share-requires-clause-empty g t c =
    let IsNew = IsFresh c.args.board.now in
    let fresh = of_last IsNew c.pop.new.self.items c.in-Some.pass
    (subst (All IsNew) c.in-Some.ensures.items c.requires.fresh) in
    fresh.nothing

pub share-requires-clause-ended : goal.share-requires-clause-ended
share-requires-clause-ended g t c =
    let IsNew = IsFresh c.args.board.now in
    let fresh = of_last IsNew c.pop.new.self.items c.in-Some.pass
    (subst (All IsNew) c.in-Some.ensures.items c.requires.fresh) in
    fresh.ended

pub returns-then-len-eq1 : goal.returns-then-len-eq1
returns-then-len-eq1 g t c =
    let IsNew = IsFresh c.args.board.now in
    let fresh = of_last IsNew c.pop.new.self.items c.in-Some.pass
    (subst (All IsNew) c.in-Some.ensures.items c.requires.fresh) in
    one_pool c.args.board.now c.args.layers.now c.args.heights.now c.args.crew.want (vec_len c.args.crew.passes)
    c.in-Some.pass c.share.result (fresh.member ∙ sym c.if-len-eq1.true ∙ c.len.ensures) c.share.ensures.share
    c.share.ensures.members

pub join+arg2-returns : goal.join+arg2-returns
join+arg2-returns g t c = c.pool.ensures

pub join+arg3-returns : goal.join+arg3-returns
join+arg3-returns g t c = c.pool.ensures
