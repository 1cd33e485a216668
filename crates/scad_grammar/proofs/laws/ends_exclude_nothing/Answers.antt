use Rattle.scad_grammar.proofs.Unique.{ends_exclude_nothing}
use Rattle.scad_grammar.proofs.laws.ends_exclude_nothing.Goals as goal

pub returns : goal.returns
returns c = ends_exclude_nothing
