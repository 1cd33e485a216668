use Rattle.scad_grammar.proofs.faults.Acceptance.{accepts_what_is_derived}
use Rattle.scad_grammar.proofs.laws.accepts_what_is_derived.Goals as goal

pub returns : goal.returns
returns c = accepts_what_is_derived
