use Rattle.meaning_laws.proofs.Programs.{counts_rise}
use Rattle.meaning_laws.proofs.laws.counts_rise.Goals as goal

pub returns : goal.returns
returns c = counts_rise
