use Rattle.std.proofs.Common.{ap, sym, ◌∙◌}
use Rattle.scad_ast.specs.View.{arguments, expression_of}
use Rattle.scad_ast.proofs.Rows.{let_view, assert_view, echo_view}
use Rattle.scad_grammar.specs.Behind.{keyed_tree, letting, asserting, echoing}
use Rattle.scad_parse.specs.Reading.{keyed}
use Rattle.scad_parse.proofs.rules.Steps.{boxed_some, boxed_none}
use Rattle.scad_parse.proofs.node.bound.Goals as goal

pub returns-in_default : goal.returns-in_default
returns-in_default c = boxed_none c.in_default.is c.boxed-body.ensures.kept

pub returns-in-Let : goal.returns-in-Let
returns-in-Let c = boxed_some c.in-Some.is c.boxed-body.ensures.kept
    (let_view c.args.at c.args.args c.in-Some.body
    ∙ (ap (λ e. keyed_tree letting c.args.at (arguments c.args.args.items) (expression_of e)) c.in-Some.ensures.tree
    ∙ ap (λ b. keyed_tree (keyed b) c.args.at (arguments c.args.args.items) (expression_of c.args.body))
    (sym c.in-Let.is)))

pub returns-in-Assert : goal.returns-in-Assert
returns-in-Assert c = boxed_some c.in-Some.is c.boxed-body.ensures.kept
    (assert_view c.args.at c.args.args c.in-Some.body
    ∙ (ap (λ e. keyed_tree asserting c.args.at (arguments c.args.args.items) (expression_of e)) c.in-Some.ensures.tree
    ∙ ap (λ b. keyed_tree (keyed b) c.args.at (arguments c.args.args.items) (expression_of c.args.body))
    (sym c.in-Assert.is)))

pub returns-in-Echo : goal.returns-in-Echo
returns-in-Echo c = boxed_some c.in-Some.is c.boxed-body.ensures.kept
    (echo_view c.args.at c.args.args c.in-Some.body
    ∙ (ap (λ e. keyed_tree echoing c.args.at (arguments c.args.args.items) (expression_of e)) c.in-Some.ensures.tree
    ∙ ap (λ b. keyed_tree (keyed b) c.args.at (arguments c.args.args.items) (expression_of c.args.body))
    (sym c.in-Echo.is)))
