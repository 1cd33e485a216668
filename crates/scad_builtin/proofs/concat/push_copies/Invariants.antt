use Rattle.std.proofs.Common.{◌≡◌, drop}
use Rattle.scad_value.specs.Datum.{Elements}
use Rattle.scad_value.specs.View.{elements}
use Rattle.scad_builtin.specs.Vectors.{appended}
use Rattle.scad_builtin.proofs.concat.push_copies.Given as goal

abbrev pub invariant-loop-value : goal.invariant-loop-value
invariant-loop-value l =
    (rest : Elements) → appended (elements l.onto.items) (appended (elements (drop l.value-index l.values)) rest)
    ≡ appended (elements l.fn.onto.items) (appended (elements l.values) rest)
