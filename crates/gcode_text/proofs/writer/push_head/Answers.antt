use Rattle.text_scan.proofs.Printed.{three, four}
use Rattle.gcode_text.proofs.writer.push_head.Goals as goal

pub returns : goal.returns
returns c =
    three (four c.push_setup.ensures c.push_heat.ensures c.push_heat-2.ensures c.push_heat-3.ensures)
    c.push_heat-4.ensures c.push_home.ensures
