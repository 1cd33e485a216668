-- A comma is read, or the end of the list stays.
use Rattle.scad_grammar.specs.Grammar.{ends_arguments}
use Rattle.scad_parse.proofs.rules.Steps.{comma_comes, end_comes}
use Rattle.scad_parse.proofs.reader.Reader.behind_argument.Goals as goal

pub returns-then-takes : goal.returns-then-takes
returns-then-takes c = comma_comes ends_arguments c.if-takes.true c.takes.ensures

pub returns : goal.returns
returns c = end_comes ends_arguments c.if-takes.false c.takes.ensures c.needs_end_of_arguments.ensures
