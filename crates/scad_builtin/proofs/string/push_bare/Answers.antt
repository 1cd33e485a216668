use Rattle.std.proofs.Common.{rules}
use Rattle.scad_value.specs.declared.value.Value.TheViews.{the_lemmas}
use Rattle.scad_builtin.proofs.string.push_bare.Goals as goal

pub returns-in_ok-push_text-in_default : goal.returns-in_ok-push_text-in_default
returns-in_ok-push_text-in_default c = search (rules, the_lemmas, c.in_default.not-Str)
