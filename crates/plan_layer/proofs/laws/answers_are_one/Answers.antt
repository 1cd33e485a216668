use Rattle.plan_layer.proofs.OneAnswer.{refusals_are_one, accepted_is_not_refused}
use Rattle.plan_layer.proofs.laws.answers_are_one.Goals as goal

pub returns : goal.returns
returns c = record { refusals = refusals_are_one; either = accepted_is_not_refused }
