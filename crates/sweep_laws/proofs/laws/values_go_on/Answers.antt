use Rattle.sweep_laws.proofs.Boundaries.{staying_values}
use Rattle.sweep_laws.proofs.Values.{values_go_on}
use Rattle.sweep_laws.proofs.laws.values_go_on.Goals as goal

pub returns : goal.returns
returns c = record { kept = staying_values; all = values_go_on }
