use Rattle.std.proofs.Common.{◌≡◌, ◌++◌, map, drop}
use Rattle.scad_ast.specs.Scope.{parameter}
use Rattle.scad_machine.specs.View.{values_in}
use Rattle.scad_machine.specs.Parameters.{missing}
use Rattle.scad_machine.proofs.parameters.missing.Given as goal

abbrev pub invariant-parameters : goal.invariant-parameters
invariant-parameters l =
    map (λ p. parameter p.now) l.all.items ++ missing (values_in l.got)
    (map parameter (drop l.p-index l.params))
    ≡ missing (values_in l.got) (map parameter l.params)
