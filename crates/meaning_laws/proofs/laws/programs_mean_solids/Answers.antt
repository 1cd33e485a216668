use Rattle.meaning_laws.proofs.Programs.{programs_mean_solids}
use Rattle.meaning_laws.proofs.laws.programs_mean_solids.Goals as goal

pub returns : goal.returns
returns c = programs_mean_solids
