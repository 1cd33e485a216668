use Rattle.std.proofs.Common.{drop, ◌∙◌, sym, arith}
use Rattle.scad_ast.specs.View.{arguments}
use Rattle.scad_expr.proofs.Loops.{same-state}
use Rattle.scad_inst.proofs.CallFrames.{dollars-none, dollars-end, dollars-next}
use Rattle.scad_inst.proofs.call_frames.set_dollars.Goals as goal

pub returns-then-k-found-clause-bound : goal.returns-then-k-found-clause-bound
returns-then-k-found-clause-bound c =
    dollars-end (arguments (drop c.arguments.arg-index c.args.args.now)) c.args.found.now c.arguments.k _ _
    c.arguments.invariant.bound (omega arith)

pub arguments-preserved : goal.arguments-preserved
arguments-preserved c =
    let done = c.in_ok-set_dollar.ensures in record {
      bound = dollars-next c.args.args.now c.args.found.now c.arguments.arg-index c.arguments.k c.arg-item.result
          c.index-found-k.result _ _ _ c.arguments.invariant.bound done.bound (omega arith) c.arg-item.is (omega arith)
          c.index-found-k.is;
      inner = done.inner;
      outer = done.outer ∙ c.arguments.invariant.outer;
      same = sym (same-state _ _ _ _ done.does) ∙ c.arguments.invariant.same;
    }

pub returns-clause-bound : goal.returns-clause-bound
returns-clause-bound c =
    dollars-none c.args.args.now c.arguments.arg-index _ _ _ c.arguments.invariant.bound (omega arith)
