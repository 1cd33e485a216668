-- Floors and ceilings are the nearest whole numbers below and above.
use Rattle.scad_num.proofs.Nearest.{floors_and_ceilings}
use Rattle.scad_num.proofs.laws.floors_and_ceilings.Goals as goal

pub returns : goal.returns
returns c = floors_and_ceilings
