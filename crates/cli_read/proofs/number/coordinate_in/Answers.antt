use Rattle.std.proofs.Common.{FitsSigned, ap, ◌∙◌}
use Rattle.std.specs.Int.{w32}
use Rattle.std.proofs.lemmas.Int.{to_z-of_z}
use Rattle.cli_read.specs.Reading.{if_coordinate}
use Rattle.cli_read.proofs.Numbers.{parsed_fits, coordinate_parsed, coordinate_not_parsed}
use Rattle.cli_read.proofs.number.coordinate_in.Goals as goal

pub returns-in-Ok : goal.returns-in-Ok
returns-in-Ok c =
    let fits : FitsSigned w32 c.in-Ok.z = parsed_fits c.args.text.now c.in-Ok.z c.parse.result c.in-Ok.is
    c.parse.ensures.value.0 in
    simp to_z-of_z at c.if_coordinate.ensures
    ∙ ap (if_coordinate c.in-Ok.z) c.as_bytes.ensures.value
    ∙ coordinate_parsed c.args.text.now c.in-Ok.z c.parse.result c.in-Ok.is c.parse.ensures.value.0

pub returns-in-Err : goal.returns-in-Err
returns-in-Err c = coordinate_not_parsed c.args.text.now c.in-Err.field-0 c.parse.result c.in-Err.is
    c.parse.ensures.value.0
