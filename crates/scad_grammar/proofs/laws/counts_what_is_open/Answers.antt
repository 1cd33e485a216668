use Rattle.scad_grammar.proofs.nesting.Open.{counts_what_is_open}
use Rattle.scad_grammar.proofs.laws.counts_what_is_open.Goals as goal

pub returns : goal.returns
returns c = counts_what_is_open
