-- A program's scope is opened, and its items are at work.
use Rattle.std.proofs.Common.{sym, ap, ◌∙◌, subst}
use Rattle.std.proofs.lemmas.Result.{err_from_is_err_and}
use Rattle.scad_ast.specs.Scope.{items}
use Rattle.scad_scope.specs.Env.{Env}
use Rattle.scad_tree.specs.Solid.{Solid}
use Rattle.scad_tree.specs.View.{solid_of}
use Rattle.scad_expr.specs.Answers.{Does}
use Rattle.scad_expr.specs.Machine.{held, along_in, state_of}
use Rattle.scad_expr.specs.State.{Outcome}
use Rattle.scad_members.specs.Frames.{below_of}
use Rattle.scad_members.specs.Meaning.{opened_scope}
use Rattle.scad_members.specs.Stack.{rest, made_in}
use Rattle.scad_inst.proofs.Onward.{program-begins, program-stops}
use Rattle.scad_inst.proofs.programs.tree_of.Goals as goal

pub returns : goal.returns
returns c =
    subst (λ (x : Outcome Solid). Does solid_of x c.run.result (state_of c.run.new.m))
    (sym (program-begins c.args.scope (held c.args.m.now) (state_of c.args.m.now) c.requires.env c.requires.along
    c.requires.depth c.new-stack.result.stands (rest c.new-stack.result) (held c.open_scope.new.m)
    (made_in c.new-stack.result) (state_of c.open_scope.new.m)
    (ap (λ (e : Env). opened_scope (below_of (held c.args.m.now)) (items c.args.scope.now.items) e
    (along_in (held c.args.m.now)) (state_of c.args.m.now)) (sym c.here-home.ensures.env)
    ∙ c.in_ok-open_scope.ensures.does) c.in_ok-open_scope.ensures.depth c.new-stack.ensures.rest
    c.new-stack.ensures.made c.new-stack.ensures.stands)) c.run.ensures

pub returns-in_err-open_scope : goal.returns-in_err-open_scope
returns-in_err-open_scope c =
    let p = err_from_is_err_and c.from_residual.result c.from_residual.ensures.1 in
    rw (p.1, p.2) (λ some. program-stops c.args.scope (held c.args.m.now) (state_of c.args.m.now) c.requires.env
    c.requires.along c.requires.depth _ (state_of c.open_scope.new.m)
    (ap (λ (e : Env). opened_scope (below_of (held c.args.m.now)) (items c.args.scope.now.items) e
    (along_in (held c.args.m.now)) (state_of c.args.m.now)) (sym c.here-home.ensures.env)
    ∙ c.in_err-open_scope.ensures.does some))
