use Rattle.scad_run.proofs.Approval as lemma
use Rattle.scad_run.proofs.laws.prints_are_confirmed.Goals as goal

pub returns : goal.returns
returns c = lemma.prints_are_confirmed c.prints_stay_inside.ensures
