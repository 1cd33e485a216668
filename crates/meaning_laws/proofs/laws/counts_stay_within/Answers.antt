use Rattle.meaning_laws.proofs.Programs.{counts_stay_within}
use Rattle.meaning_laws.proofs.laws.counts_stay_within.Goals as goal

pub returns : goal.returns
returns c = counts_stay_within
