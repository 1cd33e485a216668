use Rattle.text_scan.proofs.Printed.{two}
use Rattle.gcode_text.specs.Gcode.{amount}
use Rattle.gcode_text.proofs.word.push_filament.Goals as goal

pub returns : goal.returns
unfolding amount
returns c = two c.put.ensures c.push_amount.ensures
