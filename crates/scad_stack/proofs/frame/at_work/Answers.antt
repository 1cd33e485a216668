-- A value that was given is at work with the state and what is held that came with it.
use Rattle.std.proofs.Common.{◌≡◌, ◌≢◌, ◌≤◌, List, Result, Ok, Err, OnOk, sym, ap, ◌∙◌, arith}
use Rattle.scad_value.specs.Datum.{Datum}
use Rattle.scad_value.specs.declared.value.Value.{Value}
use Rattle.scad_value.specs.View.{datum_of}
use Rattle.scad_machine.specs.declared.fault.EvalFault.{EvalFault}
use Rattle.scad_machine.specs.declared.fault.EvalFault.TheVariants.{Memory}
use Rattle.scad_machine.specs.Answers.{Does}
use Rattle.scad_machine.specs.Machine.{Held, held, state_of}
use Rattle.scad_machine.specs.State.{State, Outcome, gives, refuses, Action, and_then}
use Rattle.scad_stack.specs.Stack.{Whole, Rest, rest, made_in, goes_on}
use Rattle.scad_stack.proofs.frame.at_work.Goals as goal

given-follows : (value : Result Value EvalFault) (v : Value) (whole : Outcome Datum) (k : Rest) (made : List Datum)
    (h now : Held) (s : State) (o : Outcome Whole)
    → value ≡ Ok v → o ≡ and_then whole (k h made) → Does datum_of whole value s → OnOk value (now ≡ h)
    → o ≡ k now made (datum_of v) s
given-follows value v whole k made h now s o ok is does kept =
    let same : whole ≡ gives (datum_of v) s = rw ok at does in
    let held_too : now ≡ h = rw ok at kept in
    is ∙ ap (λ r. and_then r (k h made)) same ∙ ap (λ x. k x made (datum_of v) s) (sym held_too)

refused-follows : (value : Result Value EvalFault) (e : EvalFault) (whole : Outcome Datum) (k : Datum → Action Whole)
    (s : State) (o : Outcome Whole)
    → value ≡ Err e → o ≡ and_then whole k → Does datum_of whole value s → e ≢ Memory → o ≡ refuses e s
refused-follows value e whole k s o err is does some =
    let same : e ≢ Memory → whole ≡ refuses e s = rw err at does in
    is ∙ ap (λ r. and_then r k) (same some)

pub returns-in-Ok-clause-goes : goal.returns-in-Ok-clause-goes
unfolding goes_on
returns-in-Ok-clause-goes c = λ whole o stack h m is does kept.
    given-follows c.args.value c.in-Ok.value whole (rest stack) (made_in stack) h (held m) (state_of m) o c.in-Ok.is is
    does kept

pub returns-in-Ok-clause-less : goal.returns-in-Ok-clause-less
returns-in-Ok-clause-less c = λ n stack stack_new m m_new four same fewer.
    let steps : m_new.steps_left ≤ m.steps_left = rw c.in-Ok.is at fewer in
    omega (arith, four, same, steps)

pub returns-in-Err-clause-goes : goal.returns-in-Err-clause-goes
returns-in-Err-clause-goes c = λ whole o stack h m is does kept some.
    refused-follows c.args.value c.in-Err.why whole (rest stack h (made_in stack)) (state_of m) o c.in-Err.is is
    does some
