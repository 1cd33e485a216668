use Rattle.text_scan.proofs.Printed.{two}
use Rattle.gcode_text.specs.Gcode.{travel_line}
use Rattle.gcode_text.proofs.word.push_travel.Goals as goal

pub returns : goal.returns
unfolding travel_line
returns c = two c.push_target.ensures c.push_feed.ensures
