use Rattle.scad_ast.proofs.Rows.{call_view}
use Rattle.scad_parse.proofs.node.call.Goals as goal

pub returns : goal.returns
returns c = call_view c.args.at c.args.word c.args.args
