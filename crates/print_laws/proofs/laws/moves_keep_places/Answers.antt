use Rattle.print_laws.proofs.Inside.{moves_keep_places}
use Rattle.print_laws.proofs.laws.moves_keep_places.Goals as goal

pub returns : goal.returns
returns c =
    moves_keep_places c.plans_keep_clear.ensures c.plans_have_lengths.ensures c.sides_are_extruded.ensures
