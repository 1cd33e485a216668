-- A literal is recognised exactly where the grammar has one.
use Rattle.scad_num.proofs.Recognition.{literals_are_recognised}
use Rattle.scad_num.proofs.laws.literals_are_recognised.Goals as goal

pub returns : goal.returns
returns c = literals_are_recognised
