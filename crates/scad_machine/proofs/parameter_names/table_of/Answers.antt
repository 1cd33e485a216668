use Rattle.std.proofs.Common.{◌+◌, ap}
use Rattle.scad_machine.specs.Arguments.{is_parameter}
use Rattle.scad_machine.specs.Parameters.{parameter_names}
use Rattle.scad_machine.proofs.Giving.{table-next}
use Rattle.scad_machine.proofs.parameter_names.table_of.Goals as goal

pub parameters-preserved : goal.parameters-preserved
parameters-preserved c = (
  ap (λ n. n + 1) c.parameters.invariant.0,
  λ name. table-next c.args.params.now c.parameters.p-index c.p-item.result c.as_slice.result c.parameters.place
      c.parameters.table c.put.new.self name (is_parameter name (parameter_names c.args.params.now))
      c.parameters-test.true c.p-item.is c.as_slice.ensures c.in_ok-put.ensures.put (c.parameters.invariant.1 name),
)
