use Rattle.sweep_laws.proofs.Walking.{walks_merge}
use Rattle.sweep_laws.proofs.laws.walks_merge.Goals as goal

pub returns : goal.returns
returns c = walks_merge
