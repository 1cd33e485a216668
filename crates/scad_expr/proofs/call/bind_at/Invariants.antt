use Rattle.std.proofs.Common.{◌≡◌, map, option_map}
use Rattle.std.specs.Vec.Iter.{into_iter_items}
use Rattle.scad_ast.specs.Scope.{parameter}
use Rattle.scad_ast.specs.View.{arguments}
use Rattle.scad_scope.specs.FrameStore.{env_at, envs}
use Rattle.scad_scope.specs.View.{children_stored}
use Rattle.scad_machine.specs.Machine.{held, along_in, state_of}
use Rattle.scad_stack.specs.Meaning.{meaning, bound}
use Rattle.scad_machine.specs.OpenFrames.{opened, bound_in}
use Rattle.scad_stack.specs.Pieces.{defaulted}
use Rattle.scad_value.specs.View.{data_in}
use Rattle.scad_expr.proofs.call.bind_at.Given as goal

abbrev pub invariant-missing : goal.invariant-missing
invariant-missing l =
    (defaulted (meaning l.depth) (env_at (envs (held l.fn.m).frames) l.call.callee.home) (along_in (held l.fn.m))
    (map (λ p. parameter p.now) (into_iter_items l.param-iterator)) (bound_in (held l.m)) (state_of l.m)
    ≡ bound (meaning l.depth) (env_at (envs (held l.fn.m).frames) l.call.callee.home) (along_in (held l.fn.m))
    (map parameter l.call.callee.params.now.items) (arguments l.call.args.now) (data_in l.fn.found) (state_of l.fn.m))
    × (held l.m ≡ opened (option_map children_stored l.call.kept) l.call.callee.home l.call.callee.home
    (bound_in (held l.m)) (held l.fn.m))
