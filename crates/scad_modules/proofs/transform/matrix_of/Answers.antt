use Rattle.scad_ast.specs.View.{arguments}
use Rattle.scad_value.specs.View.{datum_of, data_of}
use Rattle.scad_modules.specs.View.{datum_in}
use Rattle.scad_modules.proofs.Matrices.{matrix-said, matrix-refused}
use Rattle.scad_modules.proofs.transform.matrix_of.Goals as goal

pub returns-in-Ok : goal.returns-in-Ok
returns-in-Ok c =
    matrix-said c.args.transform (arguments c.args.args.now) (data_of c.args.values.now) c.first_name.result.now
    (datum_in c.taken.result) c.first_name.ensures c.taken.ensures (datum_of c.in-Ok.first.now) c.matrix_by.result
    c.in-Ok.ensures c.matrix_by.ensures

pub returns-in-Err : goal.returns-in-Err
returns-in-Err c =
    matrix-refused c.args.transform (arguments c.args.args.now) (data_of c.args.values.now) c.first_name.result.now
    (datum_in c.taken.result) c.first_name.ensures c.taken.ensures c.in-Err.why c.in-Err.ensures
