use Rattle.winding_laws.proofs.Joining.{joining_keeps_balance, joining_keeps_winding}
use Rattle.winding_laws.proofs.laws.joining_keeps_winding.Goals as goal

pub returns : goal.returns
returns c = record { balance = joining_keeps_balance; winding = joining_keeps_winding }
