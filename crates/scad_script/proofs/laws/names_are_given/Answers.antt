use Rattle.scad_script.proofs.HandOver as lemma
use Rattle.scad_script.proofs.laws.names_are_given.Goals as goal

pub returns : goal.returns
returns c = lemma.names_are_given
