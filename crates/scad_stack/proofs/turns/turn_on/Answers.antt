use Rattle.std.proofs.Common.{◌≡◌, sym, ap, ◌∙◌}
use Rattle.std.specs.Box.{with_value}
use Rattle.scad_value.specs.View.{datum_of}
use Rattle.scad_machine.specs.Machine.{Held, held, env_in, along_in, state_of}
use Rattle.scad_machine.specs.OpenFrames.{left}
use Rattle.scad_machine.specs.Variables.{set, empty, within}
use Rattle.scad_stack.specs.declared.frame.Turning.{Turning}
use Rattle.scad_stack.specs.Stack.{rest, made_in}
use Rattle.scad_stack.proofs.Loops.{same-state}
use Rattle.scad_stack.proofs.StackBegins.{turn-begins}
use Rattle.scad_stack.proofs.turns.turn_on.Goals as goal

pub returns-clause-goes : goal.returns-clause-goes
unfolding left held
returns-clause-goes c = λ o is.
    let d = datum_of c.args.value in
    let v = c.deref.result.now.variable in
    let names = set v.name.now d empty in
    let now : Turning = record c.deref_mut.result.now { back = c.args.m.now.here } in
    let same : v ≡ c.args.turning.value.variable = cc in
    let same_variable : now.variable ≡ v = cc in
    let lefts : now.left ≡ c.args.turning.value.left = cc in
    let back = c.in_ok-_back.ensures.back ∙ c.in_ok-step.ensures.kept in
    let h = held c.open_with.new.self in
    c.variables.ensures.goes h (state_of c.open_with.new.self) o (is ∙ turn-begins c.args.turning.value
    (with_value c.args.turning now) v d (rest c.args.stack.now) (rest c.push.new.self) (held c.args.m.now) h
    (made_in c.args.stack.now) (made_in c.push.new.self) (state_of c.args.m.now) (state_of c.step.new.self)
    (state_of c.open_with.new.self) same same_variable lefts c.in_ok-step.ensures.does c.in_ok-push.ensures.rest
    (c.in_ok-_back.ensures.env ∙ ap (λ (h : Held). within (env_in h) names.names) c.in_ok-step.ensures.kept)
    (c.in_ok-_back.ensures.along ∙ ap (λ (h : Held). within (along_in h) names.dollars) c.in_ok-step.ensures.kept)
    (ap (λ b. left b h) (sym (ap (λ (h : Held). h.here) back)) ∙ back)
    c.in_ok-push.ensures.made
    (sym (same-state _ _ _ _ c.in_ok-_back.ensures.does)))
