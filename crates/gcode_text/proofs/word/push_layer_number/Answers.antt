use Rattle.text_scan.proofs.Printed.{three}
use Rattle.gcode_text.specs.Gcode.{number_line}
use Rattle.gcode_text.proofs.word.push_layer_number.Goals as goal

pub returns : goal.returns
unfolding number_line
returns c = three c.put.ensures c.number.ensures c.byte.ensures
