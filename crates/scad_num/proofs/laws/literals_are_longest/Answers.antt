-- No literal at the same place is longer.
use Rattle.scad_num.proofs.Recognition.{literals_are_longest}
use Rattle.scad_num.proofs.laws.literals_are_longest.Goals as goal

pub returns : goal.returns
returns c = literals_are_longest
