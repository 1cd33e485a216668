use Rattle.text_scan.proofs.Printed.{three, four}
use Rattle.cli_text.proofs.polyline.push_polyline.Goals as goal

pub returns : goal.returns
returns c =
    let way = rw c.direction.ensures at c.number.ensures in
    four (three c.push_polyline_start.ensures way c.byte.ensures) c.number-2.ensures c.push_closed.ensures
    c.byte-2.ensures
