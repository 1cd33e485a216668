use Rattle.text_scan.proofs.Printed.{three}
use Rattle.gcode_text.specs.Gcode.{feed_end}
use Rattle.gcode_text.proofs.word.push_feed.Goals as goal

pub returns : goal.returns
unfolding feed_end
returns c = three c.put.ensures c.number.ensures c.byte.ensures
