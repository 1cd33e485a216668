use Rattle.std.proofs.Common.{◌≡◌, true, drop, None, option_map}
use Rattle.scad_ast.specs.View.{arguments}
use Rattle.scad_value.specs.View.{datum_of, data_of}
use Rattle.scad_operations.specs.Condition.{test_from}
use Rattle.scad_operations.proofs.requirements.test_of.Given as goal

abbrev pub invariant-arguments : goal.invariant-arguments
invariant-arguments l = (l.i ≡ l.arg-index) × (test_from l.first (arguments (drop l.arg-index l.args))
    (data_of (drop l.i l.values)) (option_map (λ v. datum_of v.now) l.found) ≡ test_from true (arguments l.args)
    (data_of l.values) None)
