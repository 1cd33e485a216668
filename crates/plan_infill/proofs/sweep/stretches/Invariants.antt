use Rattle.plan_infill.proofs.StepSums.{Swept}
use Rattle.plan_infill.proofs.sweep.stretches.Given as goal

abbrev pub invariant-steps : goal.invariant-steps
invariant-steps l = Swept l.steps l.least l.i l.sums.turns l.sums.near l.since l.out.items
