use Rattle.gcode_text.proofs.Numbers.{zero_is_limited}
use Rattle.gcode_text.proofs.statement.at_home.Goals as goal

pub with-requires : goal.with-requires
with-requires c = zero_is_limited c.args.letter
