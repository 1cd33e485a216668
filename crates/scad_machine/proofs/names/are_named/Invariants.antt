use Rattle.std.proofs.Common.{◌≡◌, drop}
use Rattle.scad_ast.specs.View.{arguments}
use Rattle.scad_machine.specs.Arguments.{are_named}
use Rattle.scad_machine.proofs.names.are_named.Given as goal

abbrev pub invariant-arguments : goal.invariant-arguments
invariant-arguments l = are_named (arguments (drop l.arg-index l.args)) ≡ are_named (arguments l.args)
