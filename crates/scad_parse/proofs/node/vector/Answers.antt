use Rattle.scad_ast.proofs.Rows.{vector_view}
use Rattle.scad_parse.proofs.node.vector.Goals as goal

pub returns : goal.returns
returns c = vector_view c.args.at c.args.all
