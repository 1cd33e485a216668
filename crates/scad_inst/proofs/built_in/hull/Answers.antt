-- The children of a hull are at work, and what is made of their tree waits.
use Rattle.std.proofs.Common.{◌∙◌}
use Rattle.scad_ast.specs.Scope.{items}
use Rattle.scad_expr.specs.Machine.{held, env_in, along_in, state_of}
use Rattle.scad_leaves.specs.declared.operation.Operation.TheVariants.{Unite}
use Rattle.scad_leaves.specs.declared.space.Where.{Where}
use Rattle.scad_members.specs.Frames.{below_of}
use Rattle.scad_members.specs.Meaning.{built_in, combined}
use Rattle.scad_members.specs.Stack.{rest, made_in}
use Rattle.scad_inst.proofs.Onward.{hull-begins}
use Rattle.scad_inst.proofs.built_in.hull.Goals as goal

pub returns : goal.returns
unfolding built_in
returns c = λ args found o is.
    c.combined.ensures o (is ∙ hull-begins c.args.call c.args.stack.now.stands c.push.new.self.stands
    c.profile_count-from.result (held c.args.m.now)
    (rest c.args.stack.now) (rest c.push.new.self) (made_in c.args.stack.now) (made_in c.push.new.self)
    (state_of c.args.m.now) (λ (w : Where). combined (below_of (held c.args.m.now)) Unite c.args.call.at w
    (items c.args.call.all.now.items) (env_in (held c.args.m.now)) (along_in (held c.args.m.now))
    (state_of c.args.m.now))
    c.profile_count-from.ensures c.in_ok-push.ensures.rest c.in_ok-push.ensures.made c.in_ok-push.ensures.stands)
