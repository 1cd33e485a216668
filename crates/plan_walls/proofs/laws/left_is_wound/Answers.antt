use Rattle.plan_walls.proofs.Rings.{left_is_wound}
use Rattle.plan_walls.proofs.laws.left_is_wound.Goals as goal

pub returns : goal.returns
returns c = left_is_wound
