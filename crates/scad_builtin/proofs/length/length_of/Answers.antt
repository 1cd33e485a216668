use Rattle.std.proofs.Common.{rules}
use Rattle.scad_value.specs.declared.value.Value.TheViews.{the_lemmas}
use Rattle.scad_builtin.proofs.length.length_of.Goals as goal

pub returns-in_default : goal.returns-in_default
returns-in_default c = search (rules, the_lemmas, c.in_default.not-List, c.in_default.not-Str)
