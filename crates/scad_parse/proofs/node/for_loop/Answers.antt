use Rattle.std.proofs.Common.{ap, ◌∙◌}
use Rattle.scad_ast.specs.Tree.{for_loop}
use Rattle.scad_ast.specs.View.{expression_of, element_of, arguments}
use Rattle.scad_ast.proofs.Rows.{loop_view}
use Rattle.scad_parse.proofs.rules.Steps.{boxed_some, boxed_none}
use Rattle.scad_parse.proofs.node.for_loop.Goals as goal

pub returns-in_default : goal.returns-in_default
returns-in_default c = boxed_none c.in_default.is c.boxed-e.ensures.kept

pub returns : goal.returns
returns c = boxed_some c.in-Some.is c.boxed-e.ensures.kept
    (loop_view c.args.init c.args.test c.args.step c.in-Some.e c.args.at
    ∙ ap (λ e. for_loop c.args.at (arguments c.args.init.items) (expression_of c.args.test)
    (arguments c.args.step.items) (element_of e)) c.in-Some.ensures.tree)
