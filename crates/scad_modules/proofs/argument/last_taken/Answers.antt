use Rattle.std.proofs.Common.{◌+◌, ap}
use Rattle.scad_modules.proofs.Takes.{unnamed-few, taken-goes, arguments-end, values-end}
use Rattle.scad_modules.specs.View.{datum_in}
use Rattle.scad_modules.proofs.argument.last_taken.Goals as goal

pub returns-then-k-values : goal.returns-then-k-values
returns-then-k-values c =
    values-end c.args.place c.args.name.now c.args.args.now c.args.values.now c.arguments.arg-index c.arguments.k
    c.arguments.i (datum_in c.arguments.found) _ c.arguments.invariant.taken c.if-k-values.true

pub arguments-preserved : goal.arguments-preserved
arguments-preserved c = record {
  counted = unnamed-few _ c.arguments.i c.arguments.arg-index c.arg-item.result.name c.unnamed_before_next-i.ensures
      c.arguments.invariant.counted;
  along = ap (λ n. n + 1) c.arguments.invariant.along;
  taken =
      taken-goes c.args.place c.args.name.now c.args.args.now c.args.values.now c.arguments.arg-index c.arguments.k
      c.arguments.i (datum_in c.arguments.found) _ c.arguments.invariant.taken c.arg-item.result
      c.index-values-k.result _ _ c.arguments-test.true c.arg-item.is c.if-k-values.false c.index-values-k.is
      c.unnamed_before_next-i.ensures c.taken_by-found.ensures;
}

pub returns : goal.returns
returns c =
    arguments-end c.args.place c.args.name.now c.args.args.now c.args.values.now c.arguments.arg-index c.arguments.k
    c.arguments.i (datum_in c.arguments.found) _ c.arguments.invariant.taken c.arguments-test.false
