use Rattle.text_scan.proofs.Printed.{three}
use Rattle.scad_ast.proofs.printing.statement.write_value.Goals as goal

pub returns : goal.returns
returns c = three c.write_token.ensures c.write_expression.ensures c.put.ensures
