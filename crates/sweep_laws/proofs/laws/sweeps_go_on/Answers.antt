use Rattle.sweep_laws.proofs.HeightByHeight.{sweeps_begin, sweeps_go_on, sweeps_end}
use Rattle.sweep_laws.proofs.laws.sweeps_go_on.Goals as goal

pub returns : goal.returns
returns c = record { begin = sweeps_begin; on = sweeps_go_on; end = sweeps_end }
