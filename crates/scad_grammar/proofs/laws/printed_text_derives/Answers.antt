use Rattle.scad_grammar.proofs.Unique.{printed_text_derives, printed_source_derives}
use Rattle.scad_grammar.proofs.laws.printed_text_derives.Goals as goal

pub returns-clause-tokens : goal.returns-clause-tokens
returns-clause-tokens c = printed_text_derives

pub returns-clause-source : goal.returns-clause-source
returns-clause-source c = printed_source_derives
