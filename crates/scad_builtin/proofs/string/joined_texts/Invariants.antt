use Rattle.std.proofs.Common.{◌≡◌, ◌++◌, drop}
use Rattle.scad_value.specs.View.{elements}
use Rattle.scad_builtin.specs.Strings.{joined_texts}
use Rattle.scad_builtin.proofs.string.joined_texts.Given as goal

abbrev pub invariant-loop-value : goal.invariant-loop-value
invariant-loop-value l = l.chars.items ++ joined_texts (elements (drop l.value-index l.args)) ≡ joined_texts
    (elements l.args)
