use Rattle.layer_board.proofs.laws.any_order.Goals as goal
use Rattle.layer_board.proofs.Orders.{orders_agree}

pub returns : goal.returns
returns c = orders_agree
