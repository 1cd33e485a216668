use Rattle.std.proofs.Common.{Ok}
use Rattle.scad_lex.specs.declared.token.Sign.TheVariants.{Assign, Semicolon}
use Rattle.scad_ast.specs.Tree.{function_of}
use Rattle.scad_ast.specs.Scope.{items}
use Rattle.scad_grammar.specs.Lists.{with_item}
use Rattle.scad_grammar.specs.Rules.{behind_sign, expr_of, expr_to}
use Rattle.scad_parse.specs.Reading.{below}
use Rattle.scad_parse.specs.ReadingStatements.{below_statements, statement_rules_at, heading_read, parameters_seen}
use Rattle.scad_parse.proofs.rules.Statements.{function_by, function_is, function_value}
use Rattle.scad_parse.proofs.rules.Steps.{follows, same_rule, expected}
use Rattle.scad_parse.proofs.definition.function.Goals as goal

pub returns : goal.returns
returns c =
    same_rule (λ e ts. (statement_rules_at e c.args.open.room).function_behind c.args.open.at
    (items c.args.scope.items) ts)
    (function_by c.args.open.room c.args.open.at (items c.args.scope.items))
    (function_is c.args.open.room c.args.open.at (items c.args.scope.items))
    (follows (λ e ts. heading_read e (below_statements e c.args.open.room) ts)
    (λ e h us. behind_sign e Assign us (function_value c.args.open.room c.args.open.at (items c.args.scope.items) h e))
    c.heading-head.ensures
    (expected Assign (function_value c.args.open.room c.args.open.at (items c.args.scope.items)
    (c.heading-head.result.name, parameters_seen c.heading-head.result.params)) c.expect.ensures
    (follows (λ e ts. expr_to e Semicolon (expr_of e (below e c.args.open.room)) ts)
    (λ e x vs. Ok (
      with_item (items c.args.scope.items) (function_of c.args.open.at c.heading-head.result.name
          (parameters_seen c.heading-head.result.params) x),
      vs,
    )) c.closed-body.ensures c.pushed.ensures)))
