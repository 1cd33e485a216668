-- `hull` reads neither its arguments nor their values, so it promises the same for all, and so for those of the call.
use Rattle.std.proofs.Common.{◌∙◌, ap}
use Rattle.scad_ast.specs.Scope.{items}
use Rattle.scad_ast.specs.View.{arguments}
use Rattle.scad_value.specs.View.{data_of}
use Rattle.scad_expr.specs.Machine.{held, env_in, along_in, state_of}
use Rattle.scad_modules.specs.declared.module.Module.{Module}
use Rattle.scad_members.specs.Frames.{below_of}
use Rattle.scad_members.specs.Meaning.{built_in}
use Rattle.scad_members.specs.Stack.{onward}
use Rattle.scad_inst.proofs.built_in.built_in.Goals as goal

pub returns-in-Hull : goal.returns-in-Hull
returns-in-Hull c = λ o is.
    c.hull.ensures (arguments c.args.call.args.now.items) (data_of c.args.found.now) o
    (is ∙ ap (λ (known : Module). onward (built_in (below_of (held c.args.m.now)) known c.args.call.at
    c.args.call.name.now c.args.stack.now.stands (env_in (held c.args.m.now)) (along_in (held c.args.m.now))
    (arguments c.args.call.args.now.items) (data_of c.args.found.now) (items c.args.call.all.now.items)
    (state_of c.args.m.now)) c.args.stack.now c.args.m.now) c.in-Hull.is)
