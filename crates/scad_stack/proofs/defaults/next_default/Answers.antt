-- Parameters without a default are `undef`, up to the first one with a default, or all of them.
use Rattle.std.proofs.Common.{ℕ, ◌+◌, List, map, drop, sym, ap, ◌∙◌}
use Rattle.std.proofs.lemmas.Result.{err_from_is_err_and}
use Rattle.std.specs.Borrow.{Bor}
use Rattle.scad_ast.specs.declared.statement.Param.{Param}
use Rattle.scad_ast.specs.Scope.{parameter}
use Rattle.scad_ast.specs.View.{expression_of}
use Rattle.scad_value.specs.Datum.{undef}
use Rattle.scad_machine.specs.Answers.{done_at}
use Rattle.scad_machine.specs.Machine.{held, env_in, along_in}
use Rattle.scad_machine.specs.OpenFrames.{set_in_last}
use Rattle.scad_stack.specs.Stack.{fills}
use Rattle.scad_machine.specs.State.{and_then}
use Rattle.scad_stack.proofs.Loops.{same-state}
use Rattle.scad_stack.proofs.StackBegins.{fills-defined, fills-past, fills-undefined}
use Rattle.scad_stack.proofs.defaults.next_default.Goals as goal

pub returns-in-Some-clause-found : goal.returns-in-Some-clause-found
returns-in-Some-clause-found c = λ below k s.
    let h = held c.missing.m in
    let all = c.args.params.now in
    sym (c.missing.invariant.0 below k s)
    ∙ fills-defined all c.missing.i c.index-params-i.result c.in-Some.e below k h s c.missing-test.true
    c.index-params-i.is c.in-Some.is
    ∙ ap (λ (n : List ℕ). and_then (below.value (env_in h) (along_in h) (expression_of c.in-Some.e) s)
    (λ d. fills below (map (λ (p : Bor Param). parameter p.now) (drop (c.missing.i + 1) all)) k (set_in_last n d h)))
    (sym c.as_slice.ensures)

pub missing-preserved : goal.missing-preserved
missing-preserved c =
    let h = held c.missing.m in
    let all = c.args.params.now in
    let set_one = c.in_ok-set-in-None.ensures.held
    ∙ ap (λ (n : List ℕ). set_in_last n undef h) c.as_slice-in-None.ensures in (
      λ below k s. sym (fills-undefined all c.missing.i c.index-params-i.result below k h (held c.set.new.self) s
          c.missing-test.true c.index-params-i.is c.in-None.is set_one) ∙ c.missing.invariant.0 below k s,
      sym (same-state _ _ _ _ c.in_ok-set-in-None.ensures.does) ∙ c.missing.invariant.1,
      c.in_ok-set-in-None.ensures.steps ∙ c.missing.invariant.2,
    )

pub returns-in_err-set-in-None-clause-does : goal.returns-in_err-set-in-None-clause-does
returns-in_err-set-in-None-clause-does c =
    let p = err_from_is_err_and c.from_residual.result c.from_residual.ensures.1 in
    rw (p.1, p.2) (λ some. ap done_at (sym c.missing.invariant.1) ∙ c.in_err-set-in-None.ensures.does some)

pub returns-clause-found : goal.returns-clause-found
returns-clause-found c = λ below k s.
    sym (c.missing.invariant.0 below k s)
    ∙ fills-past c.args.params.now c.missing.i below k (held c.missing.m) s c.missing-test.false
