use Rattle.std.proofs.Common.{◌≡◌, ◌||◌, ℕ, List, drop, is_some}
use Rattle.scad_bindings.specs.NamePlaces.{value_in}
use Rattle.scad_machine.specs.Arguments.{is_parameter}
use Rattle.scad_machine.specs.Parameters.{parameter_names}
use Rattle.scad_machine.proofs.parameter_names.table_of.Given as goal

abbrev pub invariant-parameters : goal.invariant-parameters
invariant-parameters l = (l.place ≡ l.p-index) × ((name : List ℕ) → (is_some (value_in name l.table)
    || is_parameter name (parameter_names (drop l.p-index l.params))) ≡ is_parameter name (parameter_names l.params))
