use Rattle.std.proofs.Common.{◌≡◌, suc, ◌+◌, ◌-◌, ◌∙◌, sym, ap, subst, arith}
use Rattle.scad_value.specs.Elementwise.{as_number}
use Rattle.scad_value.specs.Faults.{Refuses}
use Rattle.scad_value.specs.Products.{dot, column, by_columns}
use Rattle.scad_value.specs.View.{elements}
use Rattle.scad_value.proofs.Steps.{all_made, onto_none, step_made, step_refused}
use Rattle.scad_value.proofs.matrix_product.by_columns.Goals as goal

pub returns-in-Err-clause-refused : goal.returns-in-Err-clause-refused
returns-in-Err-clause-refused c =
    let xs = elements c.args.xs.now in
    let rows = elements c.args.rows.now in
    let more : c.args.columns - c.columns.j ≡ suc (c.args.columns - (c.columns.j + 1)) = omega arith in
    step_refused c.columns.made.items c.in-Err.fault (as_number (dot xs (column c.columns.j rows))) _
    (by_columns (c.args.columns - (c.columns.j + 1)) (c.columns.j + 1) xs rows) _
    (ap (λ n. by_columns n c.columns.j xs rows) more) (subst (λ r. Refuses (as_number r) c.in-Err.fault)
    c.dot_column.ensures c.in-Err.ensures.refused) c.columns.invariant

pub columns-preserved : goal.columns-preserved
columns-preserved c =
    let xs = elements c.args.xs.now in
    let rows = elements c.args.rows.now in
    let more : c.args.columns - c.columns.j ≡ suc (c.args.columns - (c.columns.j + 1)) = omega arith in
    rw c.in_ok-push-in-Ok.ensures.items
    (step_made c.columns.made.items c.in-Ok.number (as_number (dot xs (column c.columns.j rows))) _
    (by_columns (c.args.columns - (c.columns.j + 1)) (c.columns.j + 1) xs rows) _
    (ap (λ n. by_columns n c.columns.j xs rows) more) (ap as_number (sym c.dot_column.ensures) ∙
    c.in-Ok.ensures.found) c.columns.invariant)

pub columns-init : goal.columns-init
columns-init c =
    let xs = elements c.args.xs.now in
    let rows = elements c.args.rows.now in
    let all : c.args.columns - 0 ≡ c.args.columns = omega arith in
    onto_none _ _ c.new-made.ensures.items ∙ ap (λ n. by_columns n 0 xs rows) all

pub returns : goal.returns
returns c =
    let xs = elements c.args.xs.now in
    let rows = elements c.args.rows.now in
    let none : c.args.columns - c.columns.j ≡ 0 = omega arith in
    record {
      found = all_made c.columns.made.items _ _ (ap (λ n. by_columns n c.columns.j xs rows) none) c.columns.invariant;
      refused = tt;
    }
