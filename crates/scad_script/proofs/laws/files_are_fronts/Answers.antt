use Rattle.scad_script.proofs.Fronts as lemma
use Rattle.scad_script.proofs.laws.files_are_fronts.Goals as goal

pub returns : goal.returns
returns c = lemma.files_are_fronts
