use Rattle.std.proofs.Common.{◌≡◌, [], drop}
use Rattle.scad_ast.specs.View.{arguments}
use Rattle.scad_machine.specs.Machine.{held, env_in, along_in, state_of}
use Rattle.scad_stack.specs.Meaning.{meaning, values}
use Rattle.scad_value.specs.View.{data_in}
use Rattle.scad_expr.proofs.call.values_at.Given as goal

abbrev pub invariant-arguments : goal.invariant-arguments
invariant-arguments l =
    (values (meaning l.depth) (env_in (held l.fn.m)) (along_in (held l.fn.m)) (arguments (drop l.arg-index l.args))
    (data_in l.so_far) (state_of l.m)
    ≡ values (meaning l.depth) (env_in (held l.fn.m)) (along_in (held l.fn.m)) (arguments l.args) []
    (state_of l.fn.m))
    × (held l.m ≡ held l.fn.m)
