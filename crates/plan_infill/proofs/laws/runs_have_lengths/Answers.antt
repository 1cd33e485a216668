use Rattle.plan_infill.proofs.Lengths.{runs_have_lengths}
use Rattle.plan_infill.proofs.laws.runs_have_lengths.Goals as goal

pub returns : goal.returns
returns c = runs_have_lengths
