use Rattle.text_scan.proofs.Printed.{three}
use Rattle.gcode_text.specs.Gcode.{height_line}
use Rattle.gcode_text.proofs.word.push_height.Goals as goal

pub returns : goal.returns
unfolding height_line
returns c = three c.put.ensures c.push_thousandths.ensures c.push_feed.ensures
