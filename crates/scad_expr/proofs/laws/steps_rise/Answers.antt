use Rattle.scad_expr.proofs.StepsAndTurns.{steps_rise}
use Rattle.scad_expr.proofs.laws.steps_rise.Goals as goal

pub returns : goal.returns
returns c = steps_rise
