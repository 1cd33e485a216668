use Rattle.std.proofs.Common.{◌≡◌, ℕ, ◌<◌, ◌≤◌, [], ◌∷◌, ◌++◌, length, get_or, sym, ap, ◌∙◌, arith}
use Rattle.std.proofs.lemmas.List.{length-map}
use Rattle.scad_ast.specs.declared.expression.Arg.{Arg}
use Rattle.scad_ast.specs.Tree.{Expression}
use Rattle.scad_ast.specs.View.{expression_of}
use Rattle.scad_value.specs.Datum.{Datum}
use Rattle.scad_value.specs.View.{datum_of, data_in}
use Rattle.scad_machine.specs.Machine.{held, env_in, along_in, state_of}
use Rattle.scad_machine.specs.State.{Outcome, Action, and_then}
use Rattle.scad_stack.specs.Meaning.{meaning}
use Rattle.scad_stack.specs.Stack.{Whole, args_of, served, supplied, onto, rest, made_in}
use Rattle.scad_stack.proofs.StackTurns.{behind-all, behind-next, supplied-next, supplied-end}
use Rattle.scad_stack.proofs.calls.arguments.Goals as goal

pub returns-then-i-args-clause-goes : goal.returns-then-i-args-clause-goes
unfolding onto
returns-then-i-args-clause-goes c = λ o is.
    let h = held c.args.m.now in
    let s = state_of c.args.m.now in
    let e = expression_of c.args.e.now in
    let found = data_in c.args.so_far in
    let all = c.args-args.result.now in
    let a = c.index-args-i.result in
    let many : length found ≡ c.len-i.result =
    length-map c.args.so_far.items datum_of ∙ sym (c.len-i.ensures ∙ c.args.so_far.ok.0) in
    let there : length found < length all = omega (arith, many, c.if-i-args.true) in
    let after : Arg → Outcome Whole = λ (x : Arg).
    and_then ((meaning c.args.depth).value (env_in h) (along_in h) (expression_of x.value) s)
    (λ d t. and_then (supplied (meaning c.args.depth) e (env_in h) (along_in h) (found ++ d ∷ []) t)
    (rest c.args.stack.now h (made_in c.args.stack.now))) in
    c.wait.ensures.goes h s o (is ∙ supplied-next (meaning c.args.depth) e (env_in h) (along_in h) a.name
    (expression_of a.value) found s (rest c.args.stack.now h (made_in c.args.stack.now))
    (behind-next (length found) all (args_of e) a (c.args-args.ensures ∙ ap args_of c.in-Some.ensures) there
    (c.index-args-i.is ∙ ap (λ (n : ℕ). get_or all n a) (sym many)))
    ∙ ap after c.index-args-i.is)

pub returns-else-i-args-clause-goes : goal.returns-else-i-args-clause-goes
returns-else-i-args-clause-goes c = λ o is.
    let h = held c.args.m.now in
    let s = state_of c.args.m.now in
    let e = expression_of c.args.e.now in
    let found = data_in c.args.so_far in
    let all = c.args-args.result.now in
    let k : Datum → Action Whole = rest c.args.stack.now h (made_in c.args.stack.now) in
    let many : length found ≡ c.len-i.result =
    length-map c.args.so_far.items datum_of ∙ sym (c.len-i.ensures ∙ c.args.so_far.ok.0) in
    let past : length all ≤ length found = omega (arith, many, c.if-i-args.false) in
    c.serve.ensures.goes o (is ∙ ap (λ (r : Outcome Datum). and_then r k)
    (supplied-end (meaning c.args.depth) e (env_in h) (along_in h) found s
    (behind-all (length found) all (args_of e) (c.args-args.ensures ∙ ap args_of c.in-Some.ensures) past)
    ∙ ap (λ (x : Expression). served (meaning c.args.depth) x (env_in h) (along_in h) found s)
    (sym c.in-Some.ensures)))
