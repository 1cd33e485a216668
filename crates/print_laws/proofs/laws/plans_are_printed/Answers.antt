use Rattle.print_laws.proofs.ProgramPrints.{plans_are_printed}
use Rattle.print_laws.proofs.laws.plans_are_printed.Goals as goal

pub returns : goal.returns
returns c =
    plans_are_printed c.plans_are_printable.ensures c.sides_are_extruded.ensures c.moves_keep_places.ensures
    c.moves_stay_inside.ensures c.plans_have_lengths.ensures c.programs_make_their_moves.ensures
