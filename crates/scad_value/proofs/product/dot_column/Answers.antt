use Rattle.std.proofs.Common.{◌+◌, drop, Ok, Err, ap, sym, ◌∙◌}
use Rattle.scad_value.specs.Products.{nth, elements_in, column}
use Rattle.scad_value.specs.View.{datum_of, elements}
use Rattle.scad_value.proofs.Rows.{elements-drop}
use Rattle.scad_value.proofs.Sums.{dot_next}
use Rattle.scad_value.proofs.product.dot_column.Goals as goal

pub pairs-preserved : goal.pairs-preserved
pairs-preserved c =
    let x = c.index-xs-i.result in
    let row = c.index-rows-i.result in
    let j = c.args.j in
    sym (dot_next c.pairs.sum _ _ (datum_of x) (nth (elements_in (datum_of row)) j)
    (elements (drop (c.pairs.i + 1) c.args.xs.now)) (column j (elements (drop (c.pairs.i + 1) c.args.rows.now)))
    (Ok c.in-Ok.next) (elements-drop c.args.xs.now c.pairs.i x c.pairs-test.true c.index-xs-i.is)
    (ap (column j) (elements-drop c.args.rows.now c.pairs.i row c.if-i-rows.false c.index-rows-i.is)) (cc))
    ∙ c.pairs.invariant

pub returns-in-Err : goal.returns-in-Err
returns-in-Err c =
    let x = c.index-xs-i.result in
    let row = c.index-rows-i.result in
    let j = c.args.j in
    sym (dot_next c.pairs.sum _ _ (datum_of x) (nth (elements_in (datum_of row)) j)
    (elements (drop (c.pairs.i + 1) c.args.xs.now)) (column j (elements (drop (c.pairs.i + 1) c.args.rows.now)))
    (Err c.in-Err.fault) (elements-drop c.args.xs.now c.pairs.i x c.pairs-test.true c.index-xs-i.is)
    (ap (column j) (elements-drop c.args.rows.now c.pairs.i row c.if-i-rows.false c.index-rows-i.is)) (cc))
    ∙ c.pairs.invariant
