use Rattle.scad_slice.proofs.Texts.{slices_are_whole, plans_are_whole, programs_are_whole}
use Rattle.scad_slice.proofs.laws.texts_are_whole.Goals as goal

pub returns-clause-slice : goal.returns-clause-slice
returns-clause-slice c = slices_are_whole

pub returns-clause-outlines : goal.returns-clause-outlines
returns-clause-outlines c = plans_are_whole

pub returns-clause-program : goal.returns-clause-program
returns-clause-program c = programs_are_whole
