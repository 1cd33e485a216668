use Rattle.scad_lex.proofs.Longest.{names_are_longest}
use Rattle.scad_lex.proofs.laws.names_are_longest.Goals as goal

pub returns : goal.returns
returns c = names_are_longest
