-- The frames of a call are opened, and the body is at work.
use Rattle.std.proofs.Common.{ap, sym, ◌∙◌}
use Rattle.scad_ast.specs.Scope.{items}
use Rattle.scad_ast.specs.View.{arguments}
use Rattle.scad_value.specs.View.{data_in}
use Rattle.scad_scope.specs.FrameStore.{envs}
use Rattle.scad_expr.specs.Machine.{Held, held, env_in, along_in, state_of}
use Rattle.scad_members.specs.Frames.{below_of}
use Rattle.scad_members.specs.Stack.{rest, made_in}
use Rattle.scad_inst.specs.Calls.{own_opened}
use Rattle.scad_inst.specs.View.{found_at}
use Rattle.scad_inst.proofs.Onward.{own-begins}
use Rattle.scad_inst.proofs.call.called_own.Goals as goal

pub returns : goal.returns
returns c = λ o is.
    c.combined.ensures o (is ∙ own-begins c.args.call.at c.args.stack.now.stands c.push.new.self.stands
    (found_at (envs (held c.args.m.now).frames) c.args.own) (arguments c.args.call.args.now.items)
    (data_in c.in_ok-found.found) (items c.args.call.all.now.items) c.in_ok-back.back (held c.args.m.now)
    (held c.values.new.machine) (held c.open_own.new.m) (rest c.args.stack.now) (rest c.push.new.self)
    (made_in c.args.stack.now) (made_in c.push.new.self) (state_of c.args.m.now) (state_of c.values.new.machine)
    (state_of c.open_own.new.m) c.in_ok-found.ensures.does c.in_ok-found.ensures.kept
    (ap (λ (h : Held). own_opened (below_of (held c.values.new.machine)) (env_in (held c.values.new.machine))
    (along_in (held c.values.new.machine)) (found_at (envs h.frames) c.args.own) (arguments c.args.call.args.now.items)
    (data_in c.in_ok-found.found) (items c.args.call.all.now.items) (state_of c.values.new.machine))
    (sym c.in_ok-found.ensures.kept) ∙ c.in_ok-back.ensures.does)
    c.in_ok-back.ensures.back c.in_ok-push.ensures.rest c.in_ok-push.ensures.made
    c.in_ok-push.ensures.stands)
