use Rattle.std.proofs.Common.{◌≡◌, drop}
use Rattle.scad_value.specs.View.{elements}
use Rattle.scad_builtin.specs.Vectors.{appended, joined}
use Rattle.scad_builtin.proofs.concat.joined.Given as goal

abbrev pub invariant-loop-value : goal.invariant-loop-value
invariant-loop-value l = appended (elements l.all.items) (joined (elements (drop l.value-index l.args)))
    ≡ joined (elements l.args)
