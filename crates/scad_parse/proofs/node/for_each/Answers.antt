use Rattle.std.proofs.Common.{ap, ◌∙◌}
use Rattle.scad_ast.specs.Tree.{for_each}
use Rattle.scad_ast.specs.View.{element_of, arguments}
use Rattle.scad_ast.proofs.Rows.{for_view}
use Rattle.scad_parse.proofs.rules.Steps.{boxed_some, boxed_none}
use Rattle.scad_parse.proofs.node.for_each.Goals as goal

pub returns-in_default : goal.returns-in_default
returns-in_default c = boxed_none c.in_default.is c.boxed-e.ensures.kept

pub returns : goal.returns
returns c = boxed_some c.in-Some.is c.boxed-e.ensures.kept
    (for_view c.args.args c.in-Some.e c.args.at
    ∙ ap (λ e. for_each c.args.at (arguments c.args.args.items) (element_of e)) c.in-Some.ensures.tree)
