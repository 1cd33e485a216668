-- The frames of a scope, once its names are set.
use Rattle.std.proofs.Common.{sym, ap, ◌∙◌}
use Rattle.std.proofs.lemmas.Result.{err_from_is_err_and}
use Rattle.scad_ast.specs.Scope.{items}
use Rattle.scad_expr.specs.Machine.{held, state_of}
use Rattle.scad_expr.specs.OpenFrames.{bound_in}
use Rattle.scad_expr.specs.State.{gives}
use Rattle.scad_expr.proofs.Loops.{same-state}
use Rattle.scad_members.proofs.ScopeFrames.{depth-left, opened-all, scope-opens, scope-stops}
use Rattle.scad_members.proofs.scopes.open_scope.Goals as goal

pub returns-in_err-assign-clause-does : goal.returns-in_err-assign-clause-does
returns-in_err-assign-clause-does c =
    let p = err_from_is_err_and c.from_residual-in_err-assign.result c.from_residual-in_err-assign.ensures.1 in
    rw (p.1, p.2) (λ some. scope-stops (items c.args.scope.now.items) c.args.home c.in_ok-back.back (held c.args.m.now)
    (held c.open_frames.new.m) c.in_ok-back.ensures.left (state_of c.args.m.now) (state_of c.open_frames.new.m)
    (state_of c.assign.new.m) (same-state _ _ _ _ c.in_ok-back.ensures.does) c.as_slice.result.now
    (c.as_slice.ensures ∙ c.in_ok-all.ensures) c.in_ok-back.ensures.bound _ (c.in_err-assign.ensures.does some))

pub returns-clause-does : goal.returns-clause-does
returns-clause-does c =
    scope-opens (items c.args.scope.now.items) c.args.home c.in_ok-back.back (held c.args.m.now)
    (held c.open_frames.new.m) c.in_ok-back.ensures.left (state_of c.args.m.now) (state_of c.open_frames.new.m)
    (state_of c.assign.new.m) (same-state _ _ _ _ c.in_ok-back.ensures.does) c.as_slice.result.now
    (c.as_slice.ensures ∙ c.in_ok-all.ensures) c.in_ok-back.ensures.bound (bound_in (held c.assign.new.m))
    c.in_ok-assign.ensures.does
    ∙ ap (λ o. gives o (state_of c.assign.new.m))
    (sym (opened-all (items c.args.scope.now.items) c.args.home c.in_ok-back.back (held c.assign.new.m)
    (held c.args.m.now) c.in_ok-assign.ensures.scope (c.in_ok-assign.ensures.left ∙ c.in_ok-back.ensures.left)))

pub returns-clause-depth : goal.returns-clause-depth
returns-clause-depth c = depth-left c.in_ok-back.back (held c.assign.new.m) (held c.args.m.now)
    (c.in_ok-assign.ensures.left ∙ c.in_ok-back.ensures.left)
