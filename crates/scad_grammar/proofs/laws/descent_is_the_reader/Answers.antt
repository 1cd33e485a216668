use Rattle.scad_grammar.proofs.rules.Program.{descent_is_the_reader}
use Rattle.scad_grammar.proofs.laws.descent_is_the_reader.Goals as goal

pub returns : goal.returns
returns c = descent_is_the_reader
