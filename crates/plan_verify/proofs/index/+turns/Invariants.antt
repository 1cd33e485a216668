use Rattle.std.proofs.Common.{length}
use Rattle.plan_verify.specs.Index.{nodes_in}
use Rattle.plan_verify.proofs.index.+turns.Given as goal

abbrev pub decreases-turns : goal.decreases-turns
decreases-turns l = length (nodes_in l.tree.now)
