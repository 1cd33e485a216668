use Rattle.std.proofs.Common.{rules}
use Rattle.scad_value.specs.declared.value.Value.TheViews.{the_lemmas}
use Rattle.scad_value.proofs.measures.+made.Goals as goal

pub made-returns-in_default : goal.made-returns-in_default
made-returns-in_default t c = search (rules, the_lemmas)
