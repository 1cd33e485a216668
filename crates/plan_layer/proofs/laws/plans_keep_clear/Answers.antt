use Rattle.plan_layer.proofs.Clearance.{plans_keep_clear}
use Rattle.plan_layer.proofs.laws.plans_keep_clear.Goals as goal

pub returns : goal.returns
returns c = plans_keep_clear c.walls_keep_clear.ensures
