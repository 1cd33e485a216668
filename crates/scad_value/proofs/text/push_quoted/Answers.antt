use Rattle.text_scan.proofs.Printed.{three}
use Rattle.scad_value.proofs.text.push_quoted.Goals as goal

pub returns : goal.returns
returns c = three c.put.ensures c.chars.ensures c.put-2.ensures
