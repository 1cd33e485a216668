use Rattle.std.proofs.Common.{List, ◌++◌, drop}
use Rattle.plan_infill.specs.declared.step.Step.{Step}
use Rattle.plan_infill.specs.Steps.{AreSteps}
use Rattle.plan_infill.proofs.infill.steps_of.Given as goal

-- with steps of the other sides behind them these are steps of all
abbrev pub invariant-sides : goal.invariant-sides
invariant-sides l = (more : List Step) → AreSteps l.c l.line (drop l.side-index l.sides) more
    → AreSteps l.c l.line l.sides (l.steps.items ++ more)
