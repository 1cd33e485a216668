use Rattle.scad_grammar.proofs.Unique.{one_program}
use Rattle.scad_grammar.proofs.laws.one_program.Goals as goal

pub returns : goal.returns
returns c = one_program
