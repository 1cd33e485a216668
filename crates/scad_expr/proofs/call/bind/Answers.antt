use Rattle.std.proofs.Common.{List, map, option_map, ap, ◌∙◌}
use Rattle.scad_ast.specs.declared.expression.Arg.{Arg}
use Rattle.scad_ast.specs.Scope.{parameter}
use Rattle.scad_ast.specs.View.{arguments}
use Rattle.scad_scope.specs.FrameStore.{env_at, envs}
use Rattle.scad_scope.specs.View.{children_stored}
use Rattle.scad_machine.specs.Machine.{held, along_in, state_of}
use Rattle.scad_value.specs.View.{data_in}
use Rattle.scad_expr.proofs.CallFrames.{bound-same, bind-opened, bind-gives}
use Rattle.scad_stack.proofs.Loops.{same-state}
use Rattle.scad_expr.proofs.call.bind.Goals as goal

pub returns-clause-does : goal.returns-clause-does
returns-clause-does c =
    let o = held c.args.machine.now in
    bind-gives (option_map children_stored c.args.kept) c.args.callee.home (held c.bind_at.new.m)
    (held c.count_children.new.self) o
    c.in_ok-_back.ensures.opened c.in_ok-count_children.ensures.held o.depth (map parameter c.args.callee.params.now.items)
    (arguments c.args.args.now.items) (data_in c.args.values) (state_of c.args.machine.now) (state_of c.bind_at.new.m)
    (state_of c.count_children.new.self)
    (bound-same o.depth c.depth-depth.result (env_at (envs o.frames) c.args.callee.home) (along_in o)
    (map parameter c.args.callee.params.now.items) (arguments c.args.args.now.items) (arguments c.deref.result.now)
    (data_in c.args.values) (state_of c.args.machine.now) c.depth-depth.ensures
    (ap (λ (l : List Arg). arguments l) c.deref.ensures.value)
    ∙ c.in_ok-_back.ensures.does)
    (same-state _ _ _ _ c.in_ok-count_children.ensures.does)

pub returns-clause-opened : goal.returns-clause-opened
returns-clause-opened c =
    bind-opened (option_map children_stored c.args.kept) c.args.callee.home (held c.bind_at.new.m)
    (held c.count_children.new.self)
    (held c.args.machine.now) c.in_ok-_back.ensures.opened c.in_ok-count_children.ensures.held
