-- The frames of the children's scope are opened, and those that are chosen are at work.
use Rattle.std.proofs.Common.{sym, ap, ◌∙◌}
use Rattle.scad_ast.specs.Scope.{items}
use Rattle.scad_scope.specs.Env.{Children}
use Rattle.scad_scope.specs.FrameStore.{env_at, envs}
use Rattle.scad_modules.specs.View.{datum_in}
use Rattle.scad_expr.specs.Machine.{held, along_in, state_of}
use Rattle.scad_members.specs.Frames.{below_of}
use Rattle.scad_members.specs.Meaning.{run_children}
use Rattle.scad_members.specs.Stack.{rest, made_in, onward}
use Rattle.scad_members.proofs.Onward.{children-begin, starts-goes}
use Rattle.scad_members.proofs.chosen_children.children.Goals as goal

pub chosen-requires : goal.chosen-requires
chosen-requires c = c.in_ok-begin.ensures.made

pub returns : goal.returns
returns c = λ o is.
    let begins = c.in_ok-begin.ensures.rest in
    starts-goes o _ c.chosen.result c.chosen.new.stack c.open_scope.new.m
    (is ∙ ap (λ (k : Children). onward (run_children (below_of (held c.args.m.now)) c.args.at c.args.stack.now.stands
    (along_in (held c.args.m.now)) (datum_in c.args.which) k (state_of c.args.m.now)) c.args.stack.now c.args.m.now)
    (sym c.in-Some.ensures)
    ∙ children-begin c.args.at c.args.stack.now.stands (items c.in-Some.kept.scope.now.items)
    (env_at (envs (held c.args.m.now).frames) c.in-Some.kept.home) (datum_in c.args.which) begins.0 c.in_ok-back.back
    c.begin.new.self.stands (held c.args.m.now) (held c.open_scope.new.m) (rest c.args.stack.now)
    (rest c.begin.new.self) (made_in c.args.stack.now) (state_of c.args.m.now) (state_of c.open_scope.new.m)
    c.in_ok-back.ensures.does
    c.in_ok-back.ensures.back begins.1 begins.2 c.in_ok-begin.ensures.stands)
    (c.chosen.ensures.goes (held c.open_scope.new.m) (state_of c.open_scope.new.m)) c.chosen.ensures.memory
