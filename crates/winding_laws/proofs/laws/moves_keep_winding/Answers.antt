use Rattle.winding_laws.proofs.Moves.{moves_keep_balance, moves_keep_winding}
use Rattle.winding_laws.proofs.laws.moves_keep_winding.Goals as goal

pub returns : goal.returns
returns c = record { balance = moves_keep_balance; winding = moves_keep_winding }
