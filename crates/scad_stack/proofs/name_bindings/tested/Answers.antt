use Rattle.std.proofs.Common.{◌≡◌, true, sym, ap, ◌∙◌}
use Rattle.scad_ast.specs.View.{element_of}
use Rattle.scad_value.specs.Comparison.{truth}
use Rattle.scad_value.specs.View.{datum_of}
use Rattle.scad_machine.specs.Machine.{held, env_in, along_in, state_of}
use Rattle.scad_machine.specs.State.{and_then, step}
use Rattle.scad_stack.specs.declared.frame.Loop.{Loop}
use Rattle.scad_stack.specs.Meaning.{meaning}
use Rattle.scad_stack.specs.Stack.{added, rest, made_in, goes_on}
use Rattle.scad_stack.proofs.StackBegins.{test-holds}
use Rattle.scad_stack.proofs.name_bindings.tested.Goals as goal

pub returns-then-truth-clause-goes : goal.returns-then-truth-clause-goes
unfolding goes_on meaning
returns-then-truth-clause-goes c = λ o is.
    let yes : truth (datum_of c.args.v.now) ≡ true = cc in
    let k = rest c.push.new.self in
    let h = held c.step.new.self in
    let made = made_in c.push.new.self in
    is ∙ test-holds c.args.all c.args.back c.args.depth (rest c.args.stack.now) k
    (held c.args.m.now) h (made_in c.args.stack.now) made
    (datum_of c.args.v.now) (state_of c.args.m.now) (state_of c.step.new.self) yes
    (ap (λ (l : Loop). step l.at (state_of c.args.m.now)) (sym c.deref.ensures) ∙ c.in_ok-step.ensures.does)
    c.in_ok-step.ensures.kept c.in_ok-push.ensures.made c.in_ok-push.ensures.rest
    ∙ ap (λ (l : Loop). and_then ((meaning c.args.depth).element (env_in h) (along_in h) (element_of l.body.now) made
    (state_of c.step.new.self)) (added k h)) (sym c.deref.ensures)
