use Rattle.std.proofs.Common.{◌≡◌, drop}
use Rattle.scad_machine.specs.Arguments.{is_parameter}
use Rattle.scad_machine.specs.Parameters.{parameter_names}
use Rattle.scad_machine.proofs.parameter_names.is_parameter.Given as goal

abbrev pub invariant-parameters : goal.invariant-parameters
invariant-parameters l = is_parameter l.name (parameter_names (drop l.p-index l.params)) ≡ is_parameter l.name
    (parameter_names l.params)
