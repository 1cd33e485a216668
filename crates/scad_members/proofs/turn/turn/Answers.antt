-- A turn of a variable begins, or its step is one too many.
use Rattle.std.proofs.Common.{refl, ◌∙◌}
use Rattle.std.proofs.lemmas.Result.{err_from_is_err_and}
use Rattle.scad_value.specs.View.{datum_of}
use Rattle.scad_expr.specs.Machine.{held, state_of}
use Rattle.scad_members.specs.Stack.{rest, made_in, listed}
use Rattle.scad_members.proofs.Onward.{turn-begins, turn-stops}
use Rattle.scad_members.proofs.turn.turn.Goals as goal

pub returns : goal.returns
returns c = λ o is.
    is ∙ turn-begins c.args.variable c.args.stack.now.stands (datum_of c.args.value) _ c.args.more c.in_ok-back.back
    c.push-2.new.self.stands (rest c.args.stack.now) (rest c.push.new.self) (rest c.push-2.new.self) (held c.args.m.now)
    (held c.step.new.self) (held c.open_with.new.self) (made_in c.args.stack.now) (made_in c.push-2.new.self)
    (state_of c.args.m.now)
    (state_of c.step.new.self) (state_of c.open_with.new.self) refl c.in_ok-step.ensures.does
    c.in_ok-step.ensures.kept c.in_ok-push.ensures.rest c.in_ok-back.ensures.does c.in_ok-back.ensures.env
    c.in_ok-back.ensures.along c.in_ok-back.ensures.back c.in_ok-push-2.ensures.rest
    (c.in_ok-push-2.ensures.made ∙ c.in_ok-push.ensures.made)
    (c.in_ok-push-2.ensures.stands ∙ c.in_ok-push.ensures.stands)

pub returns-in_err-step : goal.returns-in_err-step
returns-in_err-step c =
    let p = err_from_is_err_and c.from_residual-in_err-step.result c.from_residual-in_err-step.ensures.1 in
    λ o is. rw (p.1, p.2) (λ some. is ∙ turn-stops c.args.variable c.args.stack.now.stands (datum_of c.args.value) _
    c.args.more (held c.args.m.now) (made_in c.args.stack.now) (state_of c.args.m.now) (state_of c.step.new.self) _
    (listed (rest c.args.stack.now) c.args.stack.now.stands (held c.args.m.now)) refl (c.in_err-step.ensures.does some))
