use Rattle.meaning_laws.proofs.Parameters.{taken_is_given}
use Rattle.meaning_laws.proofs.laws.taken_is_given.Goals as goal

pub returns : goal.returns
returns c = taken_is_given
