use Rattle.text_scan.proofs.Printed.{four}
use Rattle.gcode_text.specs.Gcode.{heat_line}
use Rattle.gcode_text.proofs.word.push_heat.Goals as goal

pub returns : goal.returns
unfolding heat_line
returns c = four c.put.ensures c.put-2.ensures c.number.ensures c.byte.ensures
