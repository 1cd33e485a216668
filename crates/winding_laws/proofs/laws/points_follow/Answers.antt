use Rattle.winding_laws.proofs.Following.{points_follow}
use Rattle.winding_laws.proofs.laws.points_follow.Goals as goal

pub returns : goal.returns
returns c = points_follow
