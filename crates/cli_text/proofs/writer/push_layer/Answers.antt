use Rattle.text_scan.proofs.Printed.{two, four}
use Rattle.cli_text.proofs.writer.push_layer.Goals as goal

pub returns : goal.returns
returns c =
    four (two c.push_layer_start.ensures c.number.ensures) c.byte.ensures c.push_polylines.ensures
    c.push_hatches.ensures
