-- A statement begins, or its step is one too many.
use Rattle.std.proofs.Common.{sym, ap, ◌∙◌, arith}
use Rattle.std.proofs.lemmas.Result.{err_from_is_err_and}
use Rattle.scad_fault.specs.declared.place.Place.{Place}
use Rattle.scad_ast.specs.Scope.{item_of}
use Rattle.scad_expr.specs.Machine.{held, state_of}
use Rattle.scad_expr.specs.State.{step}
use Rattle.scad_members.specs.Stack.{rest, made_in}
use Rattle.scad_inst.proofs.Onward.{statement-begins, statement-stops}
use Rattle.scad_inst.proofs.walk.statement.Goals as goal

pub returns : goal.returns
returns c =
    c.node.ensures _ (statement-begins c.is_marked.result c.depth-depth.result c.profile_count-from.result
    c.args.stack.now.stands c.push.new.self.stands (item_of c.args.item.now) (held c.args.m.now)
    (held c.go_deeper.new.m) (held c.step.new.self) (rest c.args.stack.now) (rest c.push.new.self)
    (made_in c.args.stack.now) (made_in c.push.new.self)
    (state_of c.args.m.now) (state_of c.go_deeper.new.m) (state_of c.step.new.self)
    (λ e. (let no : ⊥ = omega (arith, e, c.depth-depth.ensures) in no)) c.go_deeper.ensures.held
    c.go_deeper.ensures.same (ap (λ (p : Place). step p (state_of c.go_deeper.new.m)) (sym c.item_place-at.ensures)
    ∙ c.in_ok-step.ensures.does) c.in_ok-step.ensures.kept c.is_marked.ensures c.depth-depth.ensures
    c.profile_count-from.ensures c.in_ok-push.ensures.rest c.in_ok-push.ensures.made c.in_ok-push.ensures.stands)

pub returns-in_err-step : goal.returns-in_err-step
returns-in_err-step c =
    let p = err_from_is_err_and c.from_residual.result c.from_residual.ensures.1 in
    rw (p.1, p.2) (λ some. statement-stops c.args.stack.now.stands (item_of c.args.item.now) (held c.args.m.now)
    (state_of c.args.m.now) (state_of c.go_deeper.new.m) (state_of c.step.new.self) _
    (rest c.args.stack.now c.args.stack.now.stands (held c.args.m.now) (made_in c.args.stack.now))
    (λ e. (let no : ⊥ = omega (arith, e, c.depth-depth.ensures) in no)) c.go_deeper.ensures.same
    (ap (λ (p : Place). step p (state_of c.go_deeper.new.m)) (sym c.item_place-at.ensures)
    ∙ c.in_err-step.ensures.does some))
