-- A call with the values of its arguments is that of the function which its name has there.
use Rattle.std.proofs.Common.{◌≡◌, Some, None, refl, sym, ap, ap₂, ◌∙◌, arith}
use Rattle.scad_ast.specs.View.{arguments}
use Rattle.scad_value.specs.Datum.{Datum, Elements}
use Rattle.scad_value.specs.View.{data_in, elements}
use Rattle.scad_builtin.specs.Builtin.{builtin}
use Rattle.scad_scope.specs.FrameStore.{envs}
use Rattle.scad_machine.specs.Functions.{function_named}
use Rattle.scad_machine.specs.Machine.{Held, held, env_in, along_in, state_of}
use Rattle.scad_machine.specs.State.{State, Outcome, and_then}
use Rattle.scad_machine.specs.View.{found_at}
use Rattle.scad_operations.proofs.Lists.{called_elements}
use Rattle.scad_stack.specs.Meaning.{meaning, called_own, called_builtin}
use Rattle.scad_stack.specs.Stack.{Whole, rest, made_in}
use Rattle.scad_stack.proofs.StackTurns.{called-own, called-known, on-ok}
use Rattle.scad_stack.proofs.calls.called.Goals as goal

pub returns-in-Ok-Some-clause-goes : goal.returns-in-Ok-Some-clause-goes
returns-in-Ok-Some-clause-goes c = λ o is.
    let h = held c.args.m.now in
    let s = state_of c.args.m.now in
    let w = c.args.written in
    let below = meaning c.args.depth in
    let args = arguments w.args.now in
    let own = c.in-Ok-Some.own in
    let k = rest c.args.stack.now in
    let made = made_in c.args.stack.now in
    let values = data_in c.args.found in
    let found : Some (found_at (envs h.frames) own) ≡ function_named w.word.now (env_in h) =
    rw c.in-Ok-Some.field-0-is at c.in-Ok-Some.ensures.found in
    let after : Held → State → Outcome Whole = λ (x : Held) (t : State).
    and_then (called_own below (along_in x) (found_at (envs x.frames) own) args values t) (k x made) in
    c.call_own.ensures.goes o (is ∙ ap (λ (r : Outcome Datum). and_then r (k h made))
    (called-own below w.at w.word.now (function_named w.word.now (env_in h)) (found_at (envs h.frames) own) (along_in h)
    args values s (sym found))
    ∙ ap₂ after (sym c.in-Ok-Some.ensures.kept) (sym c.in-Ok-Some.ensures.state))

pub returns-in-Ok-None-clause-goes : goal.returns-in-Ok-None-clause-goes
returns-in-Ok-None-clause-goes c = λ o is.
    let h = held c.args.m.now in
    let s = state_of c.args.m.now in
    let w = c.args.written in
    let k = rest c.args.stack.now in
    let made = made_in c.args.stack.now in
    let values = data_in c.args.found in
    let s1 = state_of c.function.new.self in
    let found : None ≡ function_named w.word.now (env_in h) =
    rw c.in-Ok-None.field-0-is at c.in-Ok-None.ensures.found in
    let given : Elements → State → Outcome Datum = λ (all : Elements) (t : State).
    called_builtin w.at w.word.now (builtin w.word.now all) t in
    let all = elements c.deref.result.now in
    c.at_work.ensures.goes (given all s1) o c.args.stack.now h c.builtin_at.new.m
    (is ∙ ap (λ (r : Outcome Datum). and_then r (k h made))
    (called-known (meaning c.args.depth) w.at w.word.now (function_named w.word.now (env_in h)) (along_in h)
    (arguments w.args.now) values s (sym found)
    ∙ ap₂ given (called_elements c.args.found.items ∙ ap elements (sym c.deref.ensures.value))
    (sym c.in-Ok-None.ensures.state)))
    c.builtin_at.ensures.does
    (on-ok c.builtin_at.result (c.builtin_at.ensures.kept ∙ c.in-Ok-None.ensures.kept))

pub returns-in-Ok-None-clause-less : goal.returns-in-Ok-None-clause-less
returns-in-Ok-None-clause-less c =
    c.at_work.ensures.less 4 c.args.stack.now c.args.stack.now c.args.m.now c.builtin_at.new.m (omega arith) refl
    (rw c.in-Ok-None.ensures.same at c.builtin_at.ensures.less)

pub returns-clause-goes : goal.returns-clause-goes
returns-clause-goes c = λ o is some. absurd (some refl)
