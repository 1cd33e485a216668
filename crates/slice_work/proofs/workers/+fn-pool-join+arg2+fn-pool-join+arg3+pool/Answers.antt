use Rattle.std.proofs.Common.{◌≡◌, ◌+◌, vec_len, rules}
use Rattle.std.proofs.lemmas.Result.{IfOk-at_ok}
use Rattle.slice_work.specs.Part.{Part}
use Rattle.slice_work.proofs.GroupPool.{Worked, pooled, both_drawn}
use Rattle.slice_work.proofs.workers.+fn-pool-join+arg2+fn-pool-join+arg3+pool.Goals as goal

pub returns-clause-pool : goal.returns-clause-pool
returns-clause-pool g t c =
    let low = vec_len c.split_off.new.self in
    let high = vec_len c.in_ok-high.high in
    let Works = Worked c.args.board.now c.args.first (λ part. g.W.LayerWork.draws c.args.work.now part) in
    let all : vec_len c.args.passes ≡ low + high = search rules in
    pooled c.args.board.now c.args.first low high c.in_ok-a.field-0 c.in_ok-b.field-0
    (IfOk-at_ok (Works low) c.in_ok-a.was c.join-a.ensures.first).0
    (IfOk-at_ok (Works high) c.in_ok-b.was c.join-a.ensures.second).0
    c.together.result (vec_len c.args.passes) all c.together.ensures.through c.together.ensures.joined
    c.together.ensures.done

pub returns-clause-drawn : goal.returns-clause-drawn
returns-clause-drawn g t c =
    let low = vec_len c.split_off.new.self in
    let high = vec_len c.in_ok-high.high in
    let Draws = λ (part : Part). g.W.LayerWork.draws c.args.work.now part in
    let Works = Worked c.args.board.now c.args.first Draws in
    both_drawn Draws c.in_ok-a.field-0 c.in_ok-b.field-0 c.together.result
    (IfOk-at_ok (Works low) c.in_ok-a.was c.join-a.ensures.first).1
    (IfOk-at_ok (Works high) c.in_ok-b.was c.join-a.ensures.second).1
    c.together.ensures.done
