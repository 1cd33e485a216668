use Rattle.text_scan.proofs.Printed.{three}
use Rattle.gcode_text.specs.Gcode.{print_line}
use Rattle.gcode_text.proofs.word.push_print.Goals as goal

pub returns : goal.returns
unfolding print_line
returns c = three c.push_target.ensures c.push_filament.ensures c.push_feed.ensures
