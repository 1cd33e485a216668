use Rattle.plan_support.proofs.SupportRuns.{SupportedUpTo}
use Rattle.plan_support.proofs.support.supports.Given as goal

abbrev pub invariant-rows : goal.invariant-rows
invariant-rows l = SupportedUpTo l.outlines l.cover l.gap l.min l.i l.to_right l.paths.items
