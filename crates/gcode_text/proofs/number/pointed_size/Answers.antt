-- There are no more zeros than places.
use Rattle.std.proofs.Common.{arith}
use Rattle.gcode_text.proofs.number.pointed_size.Goals as goal

pub scaled-requires-clause-zeros : goal.scaled-requires-clause-zeros
scaled-requires-clause-zeros c = omega arith
