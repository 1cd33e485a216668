use Rattle.plan_walls.proofs.Distance.{walls_stay_apart}
use Rattle.plan_walls.proofs.laws.walls_stay_apart.Goals as goal

pub returns : goal.returns
returns c = walls_stay_apart
