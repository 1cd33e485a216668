use Rattle.winding_laws.proofs.Order.{order_keeps_balance, order_keeps_winding}
use Rattle.winding_laws.proofs.laws.order_keeps_winding.Goals as goal

pub returns : goal.returns
returns c = record { balance = order_keeps_balance; winding = order_keeps_winding }
