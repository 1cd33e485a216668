use Rattle.gcode_text.proofs.Program.{programs_make_their_moves}
use Rattle.gcode_text.proofs.laws.programs_make_their_moves.Goals as goal

pub returns : goal.returns
returns c = programs_make_their_moves
