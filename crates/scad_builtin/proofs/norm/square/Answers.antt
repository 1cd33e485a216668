use Rattle.scad_builtin.proofs.Signs.{square_sign}
use Rattle.scad_builtin.proofs.norm.square.Goals as goal

pub returns-clause-sign : goal.returns-clause-sign
returns-clause-sign c = square_sign c.args.a c.mul.result c.mul.ensures
