use Rattle.scad_lex.proofs.Longest.{runs_are_longest}
use Rattle.scad_lex.proofs.laws.runs_are_longest.Goals as goal

pub returns : goal.returns
returns c = runs_are_longest
