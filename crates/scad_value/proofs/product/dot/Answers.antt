use Rattle.std.proofs.Common.{◌+◌, drop, Ok, Err, sym, ◌∙◌}
use Rattle.scad_value.specs.View.{datum_of, elements}
use Rattle.scad_value.proofs.Rows.{elements-drop}
use Rattle.scad_value.proofs.Sums.{dot_next}
use Rattle.scad_value.proofs.product.dot.Goals as goal

pub pairs-preserved : goal.pairs-preserved
pairs-preserved c =
    let x = c.index-xs-i.result in
    let y = c.index-ys-i.result in
    sym (dot_next c.pairs.sum _ _ (datum_of x) (datum_of y) (elements (drop (c.pairs.i + 1) c.args.xs.now))
    (elements (drop (c.pairs.i + 1) c.args.ys.now)) (Ok c.in-Ok.next)
    (elements-drop c.args.xs.now c.pairs.i x c.pairs-test.true c.index-xs-i.is)
    (elements-drop c.args.ys.now c.pairs.i y c.if-i-ys.false c.index-ys-i.is) (cc)) ∙ c.pairs.invariant

pub returns-in-Err : goal.returns-in-Err
returns-in-Err c =
    let x = c.index-xs-i.result in
    let y = c.index-ys-i.result in
    sym (dot_next c.pairs.sum _ _ (datum_of x) (datum_of y) (elements (drop (c.pairs.i + 1) c.args.xs.now))
    (elements (drop (c.pairs.i + 1) c.args.ys.now)) (Err c.in-Err.fault)
    (elements-drop c.args.xs.now c.pairs.i x c.pairs-test.true c.index-xs-i.is)
    (elements-drop c.args.ys.now c.pairs.i y c.if-i-ys.false c.index-ys-i.is) (cc)) ∙ c.pairs.invariant
