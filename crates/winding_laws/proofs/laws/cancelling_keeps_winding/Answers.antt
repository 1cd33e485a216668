use Rattle.winding_laws.proofs.Cancelling.{cancelling_keeps_balance, cancelling_keeps_winding}
use Rattle.winding_laws.proofs.laws.cancelling_keeps_winding.Goals as goal

pub returns : goal.returns
returns c = record { balance = cancelling_keeps_balance; winding = cancelling_keeps_winding }
