use Rattle.meaning_laws.proofs.Parameters.{parameters_have_lists}
use Rattle.meaning_laws.proofs.laws.parameters_have_lists.Goals as goal

pub returns : goal.returns
returns c = parameters_have_lists
