use Rattle.plan_layer.proofs.Lengths.{plans_have_lengths}
use Rattle.plan_layer.proofs.laws.plans_have_lengths.Goals as goal

pub returns : goal.returns
returns c = plans_have_lengths
