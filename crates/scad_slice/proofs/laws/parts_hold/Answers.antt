use Rattle.scad_slice.proofs.Holding.{parts_hold}
use Rattle.scad_slice.proofs.laws.parts_hold.Goals as goal

pub returns : goal.returns
returns c = parts_hold
