-- Where the inner lengths agree, a vector is made of what the rows or columns give.
use Rattle.std.proofs.Common.{◌≡◌, ◌∙◌, Err, sym, ap, subst}
use Rattle.scad_value.specs.declared.product.Factor.{Factor}
use Rattle.scad_value.specs.declared.product.Factor.TheVariants.{Matrix}
use Rattle.scad_value.specs.declared.value.Value.{Value}
use Rattle.scad_value.specs.Elementwise.{as_vector}
use Rattle.scad_value.specs.Faults.{Refuses}
use Rattle.scad_value.specs.Products.{by_columns, by_rows_and_columns, product_of_factors}
use Rattle.scad_value.specs.View.{elements}
use Rattle.scad_value.proofs.Memory.{takes-vector}
use Rattle.scad_value.proofs.Operands.{when-differs, when-agrees}
use Rattle.scad_value.proofs.Steps.{vector_made, vector_refused}
use Rattle.scad_value.proofs.matrix_product.times_matrix.Goals as goal

pub returns-then-n-rows : goal.returns-then-n-rows
returns-then-n-rows c =
    let xs = elements c.args.xs.now in
    let ys = elements c.args.ys.now in
    let times = λ (l : Factor). product_of_factors l (Matrix c.args.rows c.args.columns) xs ys in
    record {
      found = ap times c.in-Numbers.is ∙ when-differs c.in-Numbers.n c.args.rows _ c.if-n-rows.true;
      refused = tt;
      memory = tt;
    }

pub returns-in_ok-vector-in-Ok : goal.returns-in_ok-vector-in-Ok
returns-in_ok-vector-in-Ok c =
    let xs = elements c.args.xs.now in
    let ys = elements c.args.ys.now in
    let times = λ (l : Factor). product_of_factors l (Matrix c.args.rows c.args.columns) xs ys in
    let all = by_columns c.args.columns 0 xs ys in
    let is : times c.args.left ≡ as_vector all =
    ap times c.in-Numbers.is ∙ when-agrees c.in-Numbers.n c.args.rows _ c.if-n-rows.false in
    record {
      found = is ∙ vector_made all c.in-Ok.made.items c.in_ok-vector-in-Ok.field-0
          c.in-Ok.ensures.found c.in_ok-vector-in-Ok.ensures;
      refused = tt;
      memory = tt;
    }

pub returns-in_err-vector-in-Ok-clause-memory : goal.returns-in_err-vector-in-Ok-clause-memory
returns-in_err-vector-in-Ok-clause-memory c =
    let xs = elements c.args.xs.now in
    let ys = elements c.args.ys.now in
    let times = λ (l : Factor). product_of_factors l (Matrix c.args.rows c.args.columns) xs ys in
    let all = by_columns c.args.columns 0 xs ys in
    let is : times c.args.left ≡ as_vector all =
    ap times c.in-Numbers.is ∙ when-agrees c.in-Numbers.n c.args.rows _ c.if-n-rows.false in
    takes-vector _ _ _ is

pub returns-in-Err : goal.returns-in-Err
returns-in-Err c =
    let xs = elements c.args.xs.now in
    let ys = elements c.args.ys.now in
    let times = λ (l : Factor). product_of_factors l (Matrix c.args.rows c.args.columns) xs ys in
    let all = by_columns c.args.columns 0 xs ys in
    let is : times c.args.left ≡ as_vector all =
    ap times c.in-Numbers.is ∙ when-agrees c.in-Numbers.n c.args.rows _ c.if-n-rows.false in
    let fault = c.in-Err.fault in
    record {
      found = tt;
      refused = subst (λ answer. Refuses answer fault) (sym is)
          (vector_refused all fault c.in-Err.ensures.refused);
      memory = takes-vector {A = Value} _ _ (Err fault) is;
    }

pub returns-then-n-rows-2 : goal.returns-then-n-rows-2
returns-then-n-rows-2 c =
    let xs = elements c.args.xs.now in
    let ys = elements c.args.ys.now in
    let times = λ (l : Factor). product_of_factors l (Matrix c.args.rows c.args.columns) xs ys in
    record {
      found = ap times c.in-Matrix.is ∙ when-differs c.in-Matrix.n c.args.rows _ c.if-n-rows-2.true;
      refused = tt;
      memory = tt;
    }

pub returns-in_ok-vector-in-Ok-by_rows_and_columns : goal.returns-in_ok-vector-in-Ok-by_rows_and_columns
returns-in_ok-vector-in-Ok-by_rows_and_columns c =
    let xs = elements c.args.xs.now in
    let ys = elements c.args.ys.now in
    let times = λ (l : Factor). product_of_factors l (Matrix c.args.rows c.args.columns) xs ys in
    let all = by_rows_and_columns c.args.columns xs ys in
    let is : times c.args.left ≡ as_vector all =
    ap times c.in-Matrix.is ∙ when-agrees c.in-Matrix.n c.args.rows _ c.if-n-rows-2.false in
    record {
      found = is ∙ vector_made all c.in-Ok-by_rows_and_columns.made.items
          c.in_ok-vector-in-Ok-by_rows_and_columns.field-0
          c.in-Ok-by_rows_and_columns.ensures.found
          c.in_ok-vector-in-Ok-by_rows_and_columns.ensures;
      refused = tt;
      memory = tt;
    }

pub returns-in_err-vector-in-Ok-by_rows_and_columns-clause-memory :
    goal.returns-in_err-vector-in-Ok-by_rows_and_columns-clause-memory
returns-in_err-vector-in-Ok-by_rows_and_columns-clause-memory c =
    let xs = elements c.args.xs.now in
    let ys = elements c.args.ys.now in
    let times = λ (l : Factor). product_of_factors l (Matrix c.args.rows c.args.columns) xs ys in
    let all = by_rows_and_columns c.args.columns xs ys in
    let is : times c.args.left ≡ as_vector all =
    ap times c.in-Matrix.is ∙ when-agrees c.in-Matrix.n c.args.rows _ c.if-n-rows-2.false in
    takes-vector _ _ _ is

pub returns-in-Err-by_rows_and_columns : goal.returns-in-Err-by_rows_and_columns
returns-in-Err-by_rows_and_columns c =
    let xs = elements c.args.xs.now in
    let ys = elements c.args.ys.now in
    let times = λ (l : Factor). product_of_factors l (Matrix c.args.rows c.args.columns) xs ys in
    let all = by_rows_and_columns c.args.columns xs ys in
    let is : times c.args.left ≡ as_vector all =
    ap times c.in-Matrix.is ∙ when-agrees c.in-Matrix.n c.args.rows _ c.if-n-rows-2.false in
    let fault = c.in-Err-by_rows_and_columns.fault in
    record {
      found = tt;
      refused = subst (λ answer. Refuses answer fault) (sym is)
          (vector_refused all fault c.in-Err-by_rows_and_columns.ensures.refused);
      memory = takes-vector {A = Value} _ _ (Err fault) is;
    }

pub returns-in-Other : goal.returns-in-Other
returns-in-Other c =
    let xs = elements c.args.xs.now in
    let ys = elements c.args.ys.now in
    let times = λ (l : Factor). product_of_factors l (Matrix c.args.rows c.args.columns) xs ys in
    record {
      found = ap times c.in-Other.is;
      refused = tt;
      memory = tt;
    }
