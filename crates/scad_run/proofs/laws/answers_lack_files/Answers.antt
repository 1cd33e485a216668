use Rattle.scad_run.proofs.Lacking as lacking
use Rattle.scad_run.proofs.laws.answers_lack_files.Goals as goal

pub returns : goal.returns
returns c = lacking.answers_lack_files
