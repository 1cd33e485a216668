-- A call whose one argument is a variable is that of the function which its name has there.
use Rattle.std.proofs.Common.{◌≡◌, [], ◌∷◌, Some, None, refl, sym, ap, ap₂, ◌∙◌, arith}
use Rattle.scad_ast.specs.View.{arguments}
use Rattle.scad_value.specs.Datum.{Datum}
use Rattle.scad_builtin.specs.Builtin.{builtin}
use Rattle.scad_scope.specs.FrameStore.{envs}
use Rattle.scad_machine.specs.Functions.{function_named}
use Rattle.scad_machine.specs.Machine.{Held, held, env_in, along_in, state_of}
use Rattle.scad_machine.specs.State.{State, Outcome, and_then}
use Rattle.scad_machine.specs.Variables.{variable}
use Rattle.scad_machine.specs.View.{found_at}
use Rattle.scad_operations.specs.Runs.{as_elements}
use Rattle.scad_stack.specs.Meaning.{meaning, called_own, called_builtin}
use Rattle.scad_stack.specs.Stack.{Whole, rest, made_in}
use Rattle.scad_stack.proofs.StackTurns.{called-own, called-known}
use Rattle.scad_stack.proofs.calls.call_of_name.Goals as goal

pub returns-in-Ok-Some-clause-goes : goal.returns-in-Ok-Some-clause-goes
returns-in-Ok-Some-clause-goes c = λ o is.
    let h = held c.args.m.now in
    let s = state_of c.args.m.now in
    let w = c.args.written in
    let below = meaning c.args.depth in
    let args = arguments w.args.now in
    let own = c.in-Ok-Some.own in
    let k = rest c.args.stack.now in
    let made = made_in c.args.stack.now in
    let value = variable c.args.of.now (env_in h) (along_in h) in
    let found : Some (found_at (envs h.frames) own) ≡ function_named w.word.now (env_in h) =
    rw c.in-Ok-Some.field-0-is at c.in-Ok-Some.ensures.found in
    let after : Held → State → Outcome Whole = λ (x : Held) (t : State).
    and_then (called_own below (along_in x) (found_at (envs x.frames) own) args
    (variable c.args.of.now (env_in x) (along_in x) ∷ []) t) (k x made) in
    c.own_of_name.ensures.goes o (is ∙ ap (λ (r : Outcome Datum). and_then r (k h made))
    (called-own below w.at w.word.now (function_named w.word.now (env_in h)) (found_at (envs h.frames) own) (along_in h)
    args (value ∷ []) s (sym found))
    ∙ ap₂ after (sym c.in-Ok-Some.ensures.kept) (sym c.in-Ok-Some.ensures.state))

pub returns-in-Ok-None-clause-goes : goal.returns-in-Ok-None-clause-goes
returns-in-Ok-None-clause-goes c = λ o is.
    let h = held c.args.m.now in
    let s = state_of c.args.m.now in
    let w = c.args.written in
    let k = rest c.args.stack.now in
    let made = made_in c.args.stack.now in
    let value = variable c.args.of.now (env_in h) (along_in h) in
    let found : None ≡ function_named w.word.now (env_in h) =
    rw c.in-Ok-None.field-0-is at c.in-Ok-None.ensures.found in
    let given : Held → State → Outcome Datum = λ (x : Held) (t : State).
    called_builtin w.at w.word.now (builtin w.word.now
    (as_elements (variable c.args.of.now (env_in x) (along_in x) ∷ []))) t in
    let h1 = held c.function.new.self in
    let s1 = state_of c.function.new.self in
    c.at_work.ensures.goes (given h1 s1) o c.args.stack.now h1 c.builtin_on.new.m
    (is ∙ ap (λ (r : Outcome Datum). and_then r (k h made))
    (called-known (meaning c.args.depth) w.at w.word.now (function_named w.word.now (env_in h)) (along_in h)
    (arguments w.args.now) (value ∷ []) s (sym found))
    ∙ ap₂ (λ (x : Held) (t : State). and_then (given x t) (k x made)) (sym c.in-Ok-None.ensures.kept)
    (sym c.in-Ok-None.ensures.state))
    c.builtin_on.ensures.does c.builtin_on.ensures.kept

pub returns-in-Ok-None-clause-less : goal.returns-in-Ok-None-clause-less
returns-in-Ok-None-clause-less c =
    c.at_work.ensures.less 4 c.args.stack.now c.args.stack.now c.args.m.now c.builtin_on.new.m (omega arith) refl
    (rw c.in-Ok-None.ensures.same at c.builtin_on.ensures.less)

pub returns-in-Err-clause-goes : goal.returns-in-Err-clause-goes
returns-in-Err-clause-goes c = λ o is some. absurd (some refl)
