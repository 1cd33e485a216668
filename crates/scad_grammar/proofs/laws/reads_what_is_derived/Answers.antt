use Rattle.scad_grammar.proofs.Unique.{reads_what_is_derived}
use Rattle.scad_grammar.proofs.laws.reads_what_is_derived.Goals as goal

pub returns : goal.returns
returns c = reads_what_is_derived
