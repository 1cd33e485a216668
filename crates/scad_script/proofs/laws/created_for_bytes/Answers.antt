use Rattle.scad_script.proofs.Creation as lemma
use Rattle.scad_script.proofs.laws.created_for_bytes.Goals as goal

pub returns : goal.returns
returns c = lemma.created_for_bytes
