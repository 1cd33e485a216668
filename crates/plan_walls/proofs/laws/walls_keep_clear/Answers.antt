use Rattle.plan_walls.proofs.Distance.{walls_keep_clear}
use Rattle.plan_walls.proofs.laws.walls_keep_clear.Goals as goal

pub returns : goal.returns
returns c = walls_keep_clear
