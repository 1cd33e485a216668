use Rattle.std.proofs.Common.{sym, ◌∙◌}
use Rattle.std.proofs.lemmas.Result.{err_from_is_err_and}
use Rattle.scad_machine.specs.Machine.{held, env_in, along_in, state_of}
use Rattle.scad_stack.specs.Meaning.{meaning}
use Rattle.scad_machine.specs.OpenFrames.{bound_in, outer}
use Rattle.scad_stack.proofs.Loops.{name-goes, name-stops, names-end}
use Rattle.scad_expr.proofs.let_bindings.set_names.Goals as goal

pub names-preserved : goal.names-preserved
names-preserved c = (
  name-goes (meaning c.args.depth) c.args.args.now c.names.arg-index c.arg-item.result c.names-test.true c.arg-item.is
      (outer (held c.names.m)) (outer (held c.args.m.now)) c.names.invariant.2 (bound_in (held c.names.m))
      (state_of c.names.m) _ c.names.invariant.0 _ _ c.in_ok-set_one.ensures.does,
  c.in_ok-set_one.ensures.inner,
  c.in_ok-set_one.ensures.outer ∙ c.names.invariant.2,
)

pub returns-clause-does : goal.returns-clause-does
returns-clause-does c =
    sym c.names.invariant.0 ∙ names-end (meaning c.args.depth) (env_in (outer (held c.args.m.now)))
    (along_in (outer (held c.args.m.now))) c.args.args.now c.names.arg-index (bound_in (held c.names.m))
    (state_of c.names.m) c.names-test.false

pub returns-in_err-set_one-clause-does : goal.returns-in_err-set_one-clause-does
returns-in_err-set_one-clause-does c =
    let p = err_from_is_err_and c.from_residual.result c.from_residual.ensures.1 in
    rw (p.1, p.2) (λ some. name-stops (meaning c.args.depth) c.args.args.now c.names.arg-index c.arg-item.result
    c.names-test.true c.arg-item.is (outer (held c.names.m)) (outer (held c.args.m.now)) c.names.invariant.2
    (bound_in (held c.names.m)) (state_of c.names.m) _ c.names.invariant.0 _ _ (c.in_err-set_one.ensures.does some))
