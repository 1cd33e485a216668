-- The places are handed on.
use Rattle.gcode_text.proofs.number.whole_size.Goals as goal

pub scaled-requires-clause-zeros : goal.scaled-requires-clause-zeros
scaled-requires-clause-zeros c = c.requires
