use Rattle.plan_layer.proofs.PlanDecision.{plans_are_decided}
use Rattle.plan_layer.proofs.laws.plans_are_decided.Goals as goal

pub returns : goal.returns
returns c = plans_are_decided
