use Rattle.scad_grammar.proofs.Unique.{judges_as_the_grammar}
use Rattle.scad_grammar.proofs.laws.judges_as_the_grammar.Goals as goal

pub returns : goal.returns
returns c = judges_as_the_grammar
