use Rattle.layer_board.proofs.laws.between_steps.Goals as goal
use Rattle.layer_board.proofs.Orders.{stays_sound}

pub returns : goal.returns
returns c = stays_sound
