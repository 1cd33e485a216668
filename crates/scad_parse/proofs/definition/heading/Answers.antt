use Rattle.std.proofs.Common.{Ok}
use Rattle.scad_grammar.specs.Rules.{then_read}
use Rattle.scad_parse.specs.ReadingStatements.{below_statements, heading_read}
use Rattle.scad_parse.specs.Standing.{word_here}
use Rattle.scad_parse.proofs.rules.Statements.{heading_by_word, heading_is, params_round}
use Rattle.scad_parse.proofs.rules.Steps.{follows, same_rule, stay}
use Rattle.scad_parse.proofs.definition.heading.Goals as goal

pub returns : goal.returns
returns c =
    same_rule (λ e ts. heading_read e (below_statements e c.args.room) ts) (heading_by_word c.args.room)
    (heading_is c.args.room)
    (follows word_here (λ e w us. then_read (params_round c.args.room e us) (λ params vs. Ok ((w.1, params), vs)))
    c.word-word.ensures
    (follows (params_round c.args.room) (λ e params vs. Ok ((c.word-word.result.name, params), vs))
    c.round_parameters-params.ensures stay))
