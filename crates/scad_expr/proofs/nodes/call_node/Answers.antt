use Rattle.std.proofs.Common.{◌≡◌, ℕ, Some, List, [], ◌∷◌, sym, ap, ap₂, ◌∙◌}
use Rattle.std.proofs.lemmas.Result.{err_from_is_err_and}
use Rattle.std.specs.Borrow.{Bor}
use Rattle.scad_fault.specs.declared.place.Place.{Place}
use Rattle.scad_ast.specs.Tree.{name}
use Rattle.scad_ast.specs.View.{arguments, expression_of}
use Rattle.scad_value.specs.Datum.{Datum}
use Rattle.scad_machine.specs.Functions.{function_named}
use Rattle.scad_machine.specs.Machine.{Held, held, env_in, along_in, state_of}
use Rattle.scad_stack.specs.Meaning.{meaning, called}
use Rattle.scad_machine.specs.Arguments.{lone}
use Rattle.scad_stack.specs.Stack.{rest, made_in, called_as}
use Rattle.scad_machine.specs.State.{Outcome, Action, and_then}
use Rattle.scad_machine.specs.Variables.{variable}
use Rattle.scad_stack.proofs.StackTurns.{node-lone, call-supplied}
use Rattle.scad_expr.proofs.nodes.call_node.Goals as goal

pub returns-in_err-pass_name-in-Some-clause-goes : goal.returns-in_err-pass_name-in-Some-clause-goes
returns-in_err-pass_name-in-Some-clause-goes c =
    let p = err_from_is_err_and c.from_residual.result c.from_residual.ensures.1 in
    rw (p.1, p.2) (λ o is some.
    let w = c.args.written in
    let h = held c.args.m.now in
    let env = env_in h in
    let along = along_in h in
    let alone : lone (arguments w.args.now) ≡ Some (name c.in-Some.at c.in-Some.word.now) =
    c.in-Some.ensures ∙ ap₂ (λ (a : Place) (v : Bor (List ℕ)). Some (name a v.now)) c.in-Some.at-is c.in-Some.word-is in
    let call : Datum → Action Datum = λ (d : Datum). called (meaning c.args.depth) w.at w.word.now (function_named w.word.now env)
    along (arguments w.args.now) (d ∷ []) in
    is ∙ ap (λ (r : Outcome Datum). and_then r (rest c.args.stack.now h (made_in c.args.stack.now)))
    (node-lone (meaning c.args.depth) env along w.at w.word.now (arguments w.args.now)
    (name c.in-Some.at c.in-Some.word.now) (state_of c.args.m.now) alone
    ∙ ap (λ (r : Outcome Datum). and_then r call) (c.in_err-pass_name-in-Some.ensures.does some)))

pub returns-in_ok-pass_name-in-Some-clause-goes : goal.returns-in_ok-pass_name-in-Some-clause-goes
returns-in_ok-pass_name-in-Some-clause-goes c = λ o is.
    let w = c.args.written in
    let h = held c.args.m.now in
    let env = env_in h in
    let along = along_in h in
    let word = c.in-Some.word.now in
    let alone : lone (arguments w.args.now) ≡ Some (name c.in-Some.at word) =
    c.in-Some.ensures ∙ ap₂ (λ (a : Place) (v : Bor (List ℕ)). Some (name a v.now)) c.in-Some.at-is c.in-Some.word-is in
    let call : Datum → Action Datum = λ (d : Datum). called (meaning c.args.depth) w.at w.word.now (function_named w.word.now env)
    along (arguments w.args.now) (d ∷ []) in
    c.call_of_name.ensures.goes o (is
    ∙ ap (λ (r : Outcome Datum). and_then r (rest c.args.stack.now h (made_in c.args.stack.now)))
    (node-lone (meaning c.args.depth) env along w.at w.word.now (arguments w.args.now) (name c.in-Some.at word)
    (state_of c.args.m.now) alone
    ∙ ap (λ (r : Outcome Datum). and_then r call) c.in_ok-pass_name-in-Some.ensures.does)
    ∙ ap (λ (x : Held). and_then (called_as w c.args.depth x (variable word (env_in x) (along_in x) ∷ [])
    (state_of c.pass_name.new.m)) (rest c.args.stack.now x (made_in c.args.stack.now)))
    (sym c.in_ok-pass_name-in-Some.ensures.kept))

pub returns-in-None-clause-goes : goal.returns-in-None-clause-goes
returns-in-None-clause-goes c = λ o is.
    let w = c.args.written in
    let h = held c.args.m.now in
    c.first_argument.ensures.goes o (is
    ∙ ap (λ (r : Outcome Datum). and_then r (rest c.args.stack.now h (made_in c.args.stack.now)))
    (call-supplied (meaning c.args.depth) (env_in h) (along_in h) w.at w.word.now (arguments w.args.now)
    (expression_of c.args.e.now) (state_of c.args.m.now) c.requires))
