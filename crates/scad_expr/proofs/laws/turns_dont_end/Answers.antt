use Rattle.scad_expr.proofs.StepsAndTurns.{turns_dont_end}
use Rattle.scad_expr.proofs.laws.turns_dont_end.Goals as goal

pub returns : goal.returns
returns c = turns_dont_end
