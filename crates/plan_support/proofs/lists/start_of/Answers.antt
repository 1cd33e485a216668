use Rattle.std.proofs.Common.{arith}
use Rattle.plan_support.proofs.Consecutive.{start_first, start_later}
use Rattle.plan_support.proofs.lists.start_of.Goals as goal

pub returns-then-i-eq0 : goal.returns-then-i-eq0
returns-then-i-eq0 c = start_first c.args.ends.now c.args.i c.if-i-eq0.true

pub returns : goal.returns
returns c = let n = c.if-i-eq0.false in start_later c.args.ends.now c.args.i (omega (arith, n))
