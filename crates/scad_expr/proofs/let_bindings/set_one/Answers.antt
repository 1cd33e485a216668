-- A name takes the value that its expression has inside the frames so far; an argument without a name binds nothing.
use Rattle.std.proofs.Common.{◌≡◌, ℕ, List, Option, Some, Result, Ok, Err, OnOk, subst, sym, ap, ap₂, ◌∙◌}
use Rattle.std.proofs.lemmas.Result.{err_from_is_err_and}
use Rattle.scad_ast.specs.Tree.{Expression}
use Rattle.scad_ast.specs.View.{expression_of}
use Rattle.scad_value.specs.Datum.{Datum}
use Rattle.scad_value.specs.View.{datum_of}
use Rattle.scad_machine.specs.declared.fault.EvalFault.{EvalFault}
use Rattle.scad_machine.specs.Answers.{Does, nothing, done_at}
use Rattle.scad_machine.specs.Machine.{Held, held, env_in, along_in, state_of}
use Rattle.scad_machine.specs.OpenFrames.{bound_in, outer, set_in_last, IsInner}
use Rattle.scad_machine.specs.State.{State, Outcome, gives, refuses, pure, and_then}
use Rattle.scad_machine.specs.Variables.{Bound, set}
use Rattle.scad_machine.proofs.OpenFrames.{inner-env, inner-along, set-inner, set-bound, set-outer}
use Rattle.scad_stack.specs.Meaning.{meaning, value}
use Rattle.scad_stack.specs.Pieces.{bind_one}
use Rattle.scad_expr.proofs.let_bindings.set_one.Goals as goal

-- ---- the value of the expression, and the name with it
binds : (depth : ℕ) (h : Held) (word : Option (List ℕ)) (name : List ℕ) (e : Expression) (s : State) (r : Outcome Datum)
    → IsInner h → word ≡ Some name → value depth (env_in h) (along_in h) e s ≡ r
    → bind_one (meaning depth) (env_in (outer h)) (along_in (outer h)) word e (bound_in h) s
    ≡ and_then r (λ d. pure (set name d (bound_in h)))
unfolding bind_one
binds depth h word name e s r i named is =
    ap (λ w. bind_one (meaning depth) (env_in (outer h)) (along_in (outer h)) w e (bound_in h) s) named
    ∙ ap (λ o. and_then o (λ d. pure (set name d (bound_in h))))
    (ap₂ (λ x y. value depth x y e s) (sym (inner-env h i)) (sym (inner-along h i)) ∙ is)

set_does : (r : Result (Unit {0}) EvalFault) (o : Outcome Bound) (name : List ℕ) (d : Datum) (h n : Held) (s t : State)
    → IsInner h → o ≡ gives (set name d (bound_in h)) s → Does nothing (done_at s) r t
    → OnOk r (n ≡ set_in_last name d h) → Does (λ _. bound_in n) o r t
set_does (Ok a) o name d h n s t i is done kept =
    let same : s ≡ t = cc in is ∙ ap₂ (λ b u. gives b u) (sym (set-bound name d h n i kept)) same
set_does (Err e) o name d h n s t i is done kept = λ some. let no : gives tt s ≡ refuses e t = done some in absurd (cc)

set_inner : (r : Result (Unit {0}) EvalFault) (name : List ℕ) (d : Datum) (h n : Held) → IsInner h
    → OnOk r (n ≡ set_in_last name d h) → OnOk r (IsInner n)
set_inner (Ok a) name d h n i kept = set-inner name d h n i kept
set_inner (Err e) name d h n i kept = tt

set_outer : (r : Result (Unit {0}) EvalFault) (name : List ℕ) (d : Datum) (h n : Held) → IsInner h
    → OnOk r (n ≡ set_in_last name d h) → OnOk r (outer n ≡ outer h)
set_outer (Ok a) name d h n i kept = set-outer name d h n i kept
set_outer (Err e) name d h n i kept = tt

set_held : (c : goal.After-set) → OnOk c.set.result
    (held c.set.new.self ≡ set_in_last c.as_slice.result.now (datum_of c.in_ok-value-in-Some.value) (held c.args.m.now))
set_held c =
    subst (λ (x : Held). OnOk c.set.result
    (held c.set.new.self ≡ set_in_last c.as_slice.result.now (datum_of c.in_ok-value-in-Some.value) x))
    c.in_ok-value-in-Some.ensures.kept c.set.ensures.held

-- ---- the clauses
pub returns-in_ok-value-in-Some-clause-does : goal.returns-in_ok-value-in-Some-clause-does
returns-in_ok-value-in-Some-clause-does c =
    let h = held c.args.m.now in
    let d = datum_of c.in_ok-value-in-Some.value in
    set_does c.set.result _ c.as_slice.result.now d h (held c.set.new.self) (state_of c.eval_at.new.m)
    (state_of c.set.new.self) c.requires
    (binds c.args.depth h c.args.arg.now.name c.as_slice.result.now (expression_of c.args.arg.now.value)
    (state_of c.args.m.now) _ c.requires (c.in-Some.is ∙ ap (λ (w : List ℕ). Some w) (sym c.as_slice.ensures))
    c.in_ok-value-in-Some.ensures.does)
    c.set.ensures.does (set_held c)

pub returns-in_ok-value-in-Some-clause-inner : goal.returns-in_ok-value-in-Some-clause-inner
returns-in_ok-value-in-Some-clause-inner c =
    set_inner c.set.result c.as_slice.result.now (datum_of c.in_ok-value-in-Some.value) (held c.args.m.now)
    (held c.set.new.self) c.requires (set_held c)

pub returns-in_ok-value-in-Some-clause-outer : goal.returns-in_ok-value-in-Some-clause-outer
returns-in_ok-value-in-Some-clause-outer c =
    set_outer c.set.result c.as_slice.result.now (datum_of c.in_ok-value-in-Some.value) (held c.args.m.now)
    (held c.set.new.self) c.requires (set_held c)

pub returns-in_err-value-in-Some-clause-does : goal.returns-in_err-value-in-Some-clause-does
returns-in_err-value-in-Some-clause-does c =
    let p = err_from_is_err_and c.from_residual.result c.from_residual.ensures.1 in
    rw (p.1, p.2) (λ some. binds c.args.depth (held c.args.m.now) c.args.arg.now.name c.in-Some.name
    (expression_of c.args.arg.now.value) (state_of c.args.m.now) _ c.requires c.in-Some.is
    (c.in_err-value-in-Some.ensures.does some))

pub returns-in_err-value-in-Some-clause-inner : goal.returns-in_err-value-in-Some-clause-inner
returns-in_err-value-in-Some-clause-inner c =
    let p = err_from_is_err_and c.from_residual.result c.from_residual.ensures.1 in rw p.1 tt

pub returns-in_err-value-in-Some-clause-outer : goal.returns-in_err-value-in-Some-clause-outer
returns-in_err-value-in-Some-clause-outer c =
    let p = err_from_is_err_and c.from_residual.result c.from_residual.ensures.1 in rw p.1 tt

pub returns-in-None-clause-does : goal.returns-in-None-clause-does
unfolding bind_one
returns-in-None-clause-does c =
    let h = held c.args.m.now in
    ap (λ (w : Option (List ℕ)). bind_one (meaning c.args.depth) (env_in (outer h)) (along_in (outer h)) w
    (expression_of c.args.arg.now.value) (bound_in h) (state_of c.args.m.now)) c.in-None.is

pub returns-in-None-clause-inner : goal.returns-in-None-clause-inner
returns-in-None-clause-inner c = c.requires
