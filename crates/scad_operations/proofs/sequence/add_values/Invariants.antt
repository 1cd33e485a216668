use Rattle.std.proofs.Common.{◌≡◌, ◌++◌, drop}
use Rattle.scad_value.specs.View.{data_of, data_in}
use Rattle.scad_operations.proofs.sequence.add_values.Given as goal

abbrev pub invariant-values : goal.invariant-values
invariant-values l = data_in l.out ++ data_of (drop l.value-index l.all) ≡ data_in l.fn.out ++ data_of l.all
