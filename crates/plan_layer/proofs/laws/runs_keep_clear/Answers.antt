use Rattle.plan_layer.proofs.Runs.{runs_keep_clear}
use Rattle.plan_layer.proofs.laws.runs_keep_clear.Goals as goal

pub returns : goal.returns
returns c = runs_keep_clear
