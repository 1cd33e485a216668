use Rattle.scad_builtin.proofs.Signs.{sum_sign}
use Rattle.scad_builtin.proofs.norm.plus.Goals as goal

pub returns-clause-sign : goal.returns-clause-sign
returns-clause-sign c = sum_sign c.args.a c.args.b c.add.result c.requires.a_sign c.requires.b_sign c.add.ensures
