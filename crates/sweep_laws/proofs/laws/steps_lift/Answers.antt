use Rattle.sweep_laws.proofs.Plain.{plain_heights_pass, last_heights_pass}
use Rattle.sweep_laws.proofs.Steps.{steps_lift}
use Rattle.sweep_laws.proofs.laws.steps_lift.Goals as goal

pub returns : goal.returns
returns c = record { lift = steps_lift; plain = plain_heights_pass; last = last_heights_pass }
