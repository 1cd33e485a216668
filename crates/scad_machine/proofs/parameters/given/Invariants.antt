use Rattle.std.proofs.Common.{◌≡◌, ◌≤◌, drop, length}
use Rattle.std.specs.Vec.Iter.{into_iter_items}
use Rattle.scad_ast.specs.View.{arguments}
use Rattle.scad_machine.specs.Arguments.{given_from, given}
use Rattle.scad_machine.specs.View.{names_in, values_in}
use Rattle.scad_machine.specs.Parameters.{parameter_names}
use Rattle.scad_value.specs.View.{data_of, data_in}
use Rattle.scad_machine.proofs.parameters.given.Given as goal

abbrev pub invariant-values : goal.invariant-values
invariant-values l =
    (given_from (parameter_names l.params) l.unnamed (arguments (drop l.at l.args))
    (data_of (into_iter_items l.value-iterator)) (values_in l.got)
    ≡ given (parameter_names l.params) (arguments l.args) (data_in l.fn.values))
    × (l.unnamed ≤ l.at) × (l.at ≤ length l.args) × (names_in l.names ≡ parameter_names l.params)
