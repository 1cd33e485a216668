use Rattle.plan_layer.proofs.SomeWalls.{walls_are_there}
use Rattle.plan_layer.proofs.SomePlans.{plans_are_there}
use Rattle.plan_layer.proofs.laws.plans_are_there.Goals as goal

pub returns : goal.returns
returns c = record { walls = walls_are_there; plans = plans_are_there }
