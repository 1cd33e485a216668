use Rattle.std.proofs.Common.{◌+◌, List, drop, sym, ap, ◌∙◌}
use Rattle.std.proofs.lemmas.Result.{err_from_is_err_and}
use Rattle.scad_ast.specs.View.{arguments}
use Rattle.scad_value.specs.Datum.{Datum}
use Rattle.scad_value.specs.View.{data_of, data_in}
use Rattle.scad_machine.specs.Machine.{held, env_in, along_in, state_of}
use Rattle.scad_stack.specs.Meaning.{meaning, values}
use Rattle.scad_operations.proofs.RunsLeft.{data-push}
use Rattle.scad_stack.proofs.Loops.{value-goes, value-stops, values-end}
use Rattle.scad_expr.proofs.call.values_at.Goals as goal

pub arguments-preserved : goal.arguments-preserved
arguments-preserved c = (
  ap (λ (l : List Datum). values (meaning c.args.depth) (env_in (held c.args.m.now)) (along_in (held c.args.m.now))
      (arguments (drop (c.arguments.arg-index + 1) c.args.args.now)) l (state_of c.eval_at.new.m))
      (ap data_of c.in_ok-push.ensures.items ∙ data-push c.arguments.so_far.items c.in_ok-value.value)
      ∙ value-goes (meaning c.args.depth) c.args.args.now c.arguments.arg-index c.arg-item.result
      c.arguments-test.true
      c.arg-item.is (held c.arguments.m) (held c.args.m.now) c.arguments.invariant.1 (data_in c.arguments.so_far)
      (state_of c.arguments.m) _ c.arguments.invariant.0 _ _ c.in_ok-value.ensures.does,
  c.in_ok-value.ensures.kept ∙ c.arguments.invariant.1,
)

pub returns-clause-does : goal.returns-clause-does
returns-clause-does c =
    sym c.arguments.invariant.0 ∙ values-end (meaning c.args.depth) (env_in (held c.args.m.now))
    (along_in (held c.args.m.now)) c.args.args.now c.arguments.arg-index (data_in c.arguments.so_far)
    (state_of c.arguments.m) c.arguments-test.false

pub returns-in_err-value-clause-does : goal.returns-in_err-value-clause-does
returns-in_err-value-clause-does c =
    let p = err_from_is_err_and c.from_residual.result c.from_residual.ensures.1 in
    rw (p.1, p.2) (λ some. value-stops (meaning c.args.depth) c.args.args.now c.arguments.arg-index c.arg-item.result
    c.arguments-test.true c.arg-item.is (held c.arguments.m) (held c.args.m.now) c.arguments.invariant.1
    (data_in c.arguments.so_far) (state_of c.arguments.m) _ c.arguments.invariant.0 _ _
    (c.in_err-value.ensures.does some))
