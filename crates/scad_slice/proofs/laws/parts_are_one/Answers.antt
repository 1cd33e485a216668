use Rattle.scad_slice.proofs.OneLayer.{parts_are_one}
use Rattle.scad_slice.proofs.laws.parts_are_one.Goals as goal

pub returns : goal.returns
returns c = parts_are_one
