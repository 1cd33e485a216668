use Rattle.sweep_laws.proofs.Groups.{groups_end, groups_go_on}
use Rattle.sweep_laws.proofs.laws.groups_pass.Goals as goal

pub returns : goal.returns
returns c = record { end = groups_end; on = groups_go_on }
