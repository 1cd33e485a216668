use Rattle.plan_walls.proofs.Lengths.{walls_have_lengths}
use Rattle.plan_walls.proofs.laws.walls_have_lengths.Goals as goal

pub returns : goal.returns
returns c = walls_have_lengths
