use Rattle.std.proofs.Common.{length}
use Rattle.plan_verify.specs.Index.{nodes_in}
use Rattle.plan_verify.proofs.index.+is_clear.Given as goal

abbrev pub decreases-is_clear : goal.decreases-is_clear
decreases-is_clear l = length (nodes_in l.tree.now)
