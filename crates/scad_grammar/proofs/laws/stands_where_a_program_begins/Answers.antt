use Rattle.scad_grammar.proofs.Unique.{stands_where_a_program_begins}
use Rattle.scad_grammar.proofs.laws.stands_where_a_program_begins.Goals as goal

pub returns : goal.returns
returns c = stands_where_a_program_begins
