use Rattle.winding_laws.proofs.Farness.{moves_stay_far, moves_stay_clear}
use Rattle.winding_laws.proofs.laws.moves_stay_far.Goals as goal

pub returns : goal.returns
returns c = record { far = moves_stay_far; clear = moves_stay_clear }
