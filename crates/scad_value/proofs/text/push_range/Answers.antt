use Rattle.text_scan.proofs.Printed.{four}
use Rattle.scad_value.proofs.text.push_range.Goals as goal

pub returns : goal.returns
returns c =
    four (four c.put.ensures c.push_number.ensures c.ascii.ensures c.push_number-2.ensures)
    c.ascii-2.ensures c.push_number-3.ensures c.put-2.ensures
