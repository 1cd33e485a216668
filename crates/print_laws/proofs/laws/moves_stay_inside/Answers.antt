use Rattle.print_laws.proofs.Inside.{moves_stay_inside}
use Rattle.print_laws.proofs.laws.moves_stay_inside.Goals as goal

pub returns : goal.returns
returns c = moves_stay_inside c.moves_keep_places.ensures
