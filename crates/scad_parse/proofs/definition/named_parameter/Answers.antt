use Rattle.std.proofs.Common.{Ok}
use Rattle.scad_grammar.specs.Rules.{then_read}
use Rattle.scad_parse.specs.Reading.{below}
use Rattle.scad_parse.specs.ReadingStatements.{parameter_of, default_of}
use Rattle.scad_parse.specs.Standing.{word_here}
use Rattle.scad_parse.proofs.rules.Statements.{parameter_by_word, parameter_is}
use Rattle.scad_parse.proofs.rules.Steps.{follows, same_rule, stay}
use Rattle.scad_parse.proofs.definition.named_parameter.Goals as goal

pub returns : goal.returns
returns c =
    same_rule (λ e ts. parameter_of e (below e c.args.room) ts) (parameter_by_word c.args.room)
    (parameter_is c.args.room)
    (follows word_here (λ e w us. then_read (default_of e (below e c.args.room) us)
    (λ d vs. Ok (record { name = w.1; default = d }, vs))) c.word-word.ensures
    (follows (λ e ts. default_of e (below e c.args.room) ts)
    (λ e d vs. Ok (record { name = c.word-word.result.name; default = d }, vs)) c.default_of-default.ensures stay))
