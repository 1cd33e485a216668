use Rattle.text_scan.proofs.Printed.{three}
use Rattle.scad_ast.proofs.printing.statement.write_signature.Goals as goal

pub returns : goal.returns
returns c =
    three c.write_token.ensures c.write_word.ensures
    (three c.write_token-2.ensures c.write_params.ensures c.write_token-3.ensures)
