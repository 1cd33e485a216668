use Rattle.std.proofs.Common.{◌+◌, ◌*◌, vec_len}
use Rattle.plan_support.proofs.workers.+fn-pool-join+arg2+fn-pool-join+arg3+pool.Given as goal

abbrev pub decreases-join+arg2 : goal.decreases-join+arg2
decreases-join+arg2 g l = 2 * vec_len l.low.passes + 1

abbrev pub decreases-join+arg3 : goal.decreases-join+arg3
decreases-join+arg3 g l = 2 * vec_len l.high.passes + 1

abbrev pub decreases-pool : goal.decreases-pool
decreases-pool g l = 2 * vec_len l.crew.passes
