use Rattle.scad_words.proofs.LeastFault.{least_faults}
use Rattle.scad_words.proofs.laws.least_faults_are_told.Goals as goal

pub returns : goal.returns
returns c = least_faults
