use Rattle.std.proofs.Common.{length, arith}
use Rattle.plan_support.proofs.Consecutive.{ends_order}
use Rattle.plan_support.proofs.lists.part_of.Goals as goal

pub returns-clause-order : goal.returns-clause-order
returns-clause-order c =
    let o = (ends_order 0 c.args.ends.now (length c.args.runs.now) c.args.i c.requires.ends c.requires.there).0 in
    let s = c.start_of.ensures in
    omega (arith, o, s)

pub returns-clause-within : goal.returns-clause-within
returns-clause-within c =
    (ends_order 0 c.args.ends.now (length c.args.runs.now) c.args.i c.requires.ends c.requires.there).1
