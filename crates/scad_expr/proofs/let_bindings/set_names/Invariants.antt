use Rattle.std.proofs.Common.{◌≡◌, drop}
use Rattle.scad_ast.specs.View.{arguments}
use Rattle.scad_machine.specs.Machine.{held, env_in, along_in, state_of}
use Rattle.scad_stack.specs.Meaning.{meaning, bound_in_order}
use Rattle.scad_machine.specs.OpenFrames.{bound_in, outer, IsInner}
use Rattle.scad_expr.proofs.let_bindings.set_names.Given as goal

abbrev pub invariant-names : goal.invariant-names
invariant-names l =
    (bound_in_order (meaning l.depth) (env_in (outer (held l.fn.m))) (along_in (outer (held l.fn.m)))
    (arguments (drop l.arg-index l.args)) (bound_in (held l.m)) (state_of l.m)
    ≡ bound_in_order (meaning l.depth) (env_in (outer (held l.fn.m))) (along_in (outer (held l.fn.m)))
    (arguments l.args) (bound_in (held l.fn.m)) (state_of l.fn.m))
    × IsInner (held l.m) × (outer (held l.m) ≡ outer (held l.fn.m))
