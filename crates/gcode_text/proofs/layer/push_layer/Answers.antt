use Rattle.text_scan.proofs.Printed.{three}
use Rattle.gcode_text.proofs.layer.push_layer.Goals as goal

pub returns-clause-text : goal.returns-clause-text
returns-clause-text c =
    three c.push_layer_number.ensures (rw c.upper_surface.ensures at c.push_height.ensures) c.push_paths.ensures.text

pub push_paths-requires-clause-width : goal.push_paths-requires-clause-width
push_paths-requires-clause-width c = c.requires.width

pub push_paths-requires-clause-height : goal.push_paths-requires-clause-height
push_paths-requires-clause-height c = c.requires.height

pub push_paths-requires-clause-area : goal.push_paths-requires-clause-area
push_paths-requires-clause-area c = c.requires.area

pub push_paths-requires-clause-fits : goal.push_paths-requires-clause-fits
push_paths-requires-clause-fits c = c.requires.fits
