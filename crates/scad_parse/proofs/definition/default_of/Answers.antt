use Rattle.std.proofs.Common.{Ok, Some, None}
use Rattle.scad_lex.specs.declared.token.Sign.TheVariants.{Assign}
use Rattle.scad_grammar.specs.Tokens.{is_sign}
use Rattle.scad_grammar.specs.Rules.{then_read, expr_of}
use Rattle.scad_parse.specs.Reading.{below}
use Rattle.scad_parse.specs.ReadingStatements.{default_of}
use Rattle.scad_parse.specs.Standing.{took}
use Rattle.scad_parse.proofs.rules.Statements.{default_by, default_is}
use Rattle.scad_parse.proofs.rules.Steps.{follows, same_rule, stay, taking, by_taken}
use Rattle.scad_parse.proofs.definition.default_of.Goals as goal

pub returns-then-not-takes : goal.returns-then-not-takes
returns-then-not-takes c =
    same_rule (λ e ts. default_of e (below e c.args.room) ts) (default_by c.args.room) (default_is c.args.room)
    (taking (λ e ts. took (is_sign Assign) ts) (λ e. by_taken
    (λ us. then_read (expr_of e (below e c.args.room) us) (λ x vs. Ok (Some x, vs))) (λ us. Ok (None, us)))
    c.if-not-takes.true c.takes.ensures stay)

pub returns : goal.returns
returns c =
    same_rule (λ e ts. default_of e (below e c.args.room) ts) (default_by c.args.room) (default_is c.args.room)
    (taking (λ e ts. took (is_sign Assign) ts) (λ e. by_taken
    (λ us. then_read (expr_of e (below e c.args.room) us) (λ x vs. Ok (Some x, vs))) (λ us. Ok (None, us)))
    c.if-not-takes.false c.takes.ensures
    (follows (λ e ts. expr_of e (below e c.args.room) ts) (λ e x vs. Ok (Some x, vs)) c.expression.ensures stay))
