-- A root is the greatest whole number whose square is not above.
use Rattle.scad_num.proofs.SquareRoot.{roots_are_whole}
use Rattle.scad_num.proofs.laws.roots_are_whole.Goals as goal

pub returns : goal.returns
returns c = roots_are_whole
