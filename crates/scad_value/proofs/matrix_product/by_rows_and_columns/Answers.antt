use Rattle.std.proofs.Common.{◌+◌, ◌∙◌, sym, ap, drop, Ok, subst}
use Rattle.scad_value.specs.Elementwise.{as_vector}
use Rattle.scad_value.specs.Faults.{Refuses}
use Rattle.scad_value.specs.Products.{elements_in, by_columns, by_rows_and_columns}
use Rattle.scad_value.specs.View.{datum_of, elements}
use Rattle.scad_value.proofs.Rows.{elements-drop, elements-drop_all}
use Rattle.scad_value.proofs.Steps.{all_made, onto_none, step_made, step_refused, vector_refused}
use Rattle.scad_value.proofs.matrix_product.by_rows_and_columns.Goals as goal

pub rows-preserved : goal.rows-preserved
rows-preserved c =
    let ys = elements c.args.ys.now in
    let n = c.args.columns in
    rw c.in_ok-push-in-Ok.ensures.items
    (step_made c.rows.made.items c.in_ok-vector-in-Ok.field-0
    (as_vector (by_columns n 0 (elements_in (datum_of c.row-item.result)) ys)) _
    (by_rows_and_columns n (elements (drop (c.rows.row-index + 1) c.args.rows.now)) ys) _
    (ap (λ es. by_rows_and_columns n es ys) (elements-drop c.args.rows.now c.rows.row-index c.row-item.result
    c.rows-test.true c.row-item.is)) (ap (λ es. as_vector (by_columns n 0 es ys)) (sym c.elements_in.ensures) ∙ ap
    as_vector c.in-Ok.ensures.found ∙ ap Ok (sym c.in_ok-vector-in-Ok.ensures)) c.rows.invariant)

pub returns-in-Err-clause-refused : goal.returns-in-Err-clause-refused
returns-in-Err-clause-refused c =
    let ys = elements c.args.ys.now in
    let n = c.args.columns in
    step_refused c.rows.made.items c.in-Err.fault
    (as_vector (by_columns n 0 (elements_in (datum_of c.row-item.result)) ys)) _
    (by_rows_and_columns n (elements (drop (c.rows.row-index + 1) c.args.rows.now)) ys) _
    (ap (λ es. by_rows_and_columns n es ys) (elements-drop c.args.rows.now c.rows.row-index c.row-item.result
    c.rows-test.true c.row-item.is)) (vector_refused (by_columns n 0 (elements_in (datum_of c.row-item.result)) ys)
    c.in-Err.fault (subst (λ es. Refuses (by_columns n 0 es ys) c.in-Err.fault) c.elements_in.ensures
    c.in-Err.ensures.refused)) c.rows.invariant

pub rows-init : goal.rows-init
rows-init c = onto_none _ _ c.in_ok-made.ensures.items

pub returns : goal.returns
returns c =
    record {
      found = all_made c.rows.made.items _ _ (ap (λ es. by_rows_and_columns c.args.columns es (elements c.args.ys.now))
          (elements-drop_all c.args.rows.now c.rows.row-index c.rows-test.false)) c.rows.invariant;
      refused = tt;
    }
