use Rattle.std.proofs.Common.{◌≡◌, List, [], ◌∷◌, ◌++◌, sym, ap, ◌∙◌}
use Rattle.std.proofs.lemmas.Result.{err_from_is_err_and}
use Rattle.scad_ast.specs.View.{arguments}
use Rattle.scad_value.specs.Datum.{Datum}
use Rattle.scad_value.specs.declared.value.Value.{Value}
use Rattle.scad_value.specs.View.{datum_of, data_of}
use Rattle.scad_scope.specs.FrameStore.{envs}
use Rattle.scad_machine.specs.Machine.{held, env_in, along_in, state_of}
use Rattle.scad_stack.specs.Meaning.{meaning, called_own}
use Rattle.scad_stack.specs.Stack.{rest, made_in}
use Rattle.scad_machine.specs.State.{and_then}
use Rattle.scad_machine.specs.Variables.{variable}
use Rattle.scad_machine.specs.View.{found_at}
use Rattle.scad_stack.proofs.calls.own_of_name.Goals as goal

pub returns-in_err-value-clause-goes : goal.returns-in_err-value-clause-goes
returns-in_err-value-clause-goes c =
    let p = err_from_is_err_and c.from_residual.result c.from_residual.ensures.1 in
    rw (p.1, p.2) (λ o is some. let no = c.in_err-value.ensures (state_of c.args.m.now) some in (cc))

pub returns-clause-goes : goal.returns-clause-goes
returns-clause-goes c = λ o is.
    let h = held c.args.m.now in
    let s = state_of c.args.m.now in
    let v = c.in_ok-value.value in
    let gives_it = c.in_ok-value.ensures s in
    let same : variable c.args.of.now (env_in h) (along_in h) ≡ datum_of v = cc in
    let items : c.push.new.self.items ≡ v ∷ [] =
    c.in_ok-push.ensures.items ∙ ap (λ (l : List Value). l ++ v ∷ []) c.new-found.ensures.items in
    c.call_own.ensures.goes o (is ∙ ap (λ (found : List Datum). and_then
    (called_own (meaning c.args.depth) (along_in h)
    (found_at (envs h.frames) c.args.own) (arguments c.args.args.now) found s)
    (rest c.args.stack.now h (made_in c.args.stack.now))) (ap (λ d. d ∷ []) same ∙ sym (ap data_of items)))
