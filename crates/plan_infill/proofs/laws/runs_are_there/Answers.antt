use Rattle.plan_infill.proofs.SomeRuns.{runs_are_there}
use Rattle.plan_infill.proofs.laws.runs_are_there.Goals as goal

pub returns : goal.returns
returns c = runs_are_there
