-- Where the inner lengths agree, a product is a number or a vector of what the rows give.
use Rattle.std.proofs.Common.{◌≡◌, ◌∙◌, Ok, Err, IfOk, IfErr, sym, ap, subst}
use Rattle.scad_value.specs.declared.product.Factor.{Factor}
use Rattle.scad_value.specs.declared.product.Factor.TheVariants.{Numbers}
use Rattle.scad_value.specs.declared.value.Value.{Value}
use Rattle.scad_value.specs.Elementwise.{as_number, as_vector}
use Rattle.scad_value.specs.Faults.{Refuses}
use Rattle.scad_value.specs.Products.{by_rows, product_of_factors}
use Rattle.scad_value.specs.View.{datum_of, elements}
use Rattle.scad_value.proofs.Memory.{takes-none, takes-vector}
use Rattle.scad_value.proofs.Operands.{when-differs, when-agrees}
use Rattle.scad_value.proofs.Steps.{vector_made, vector_refused}
use Rattle.scad_value.proofs.matrix_product.times_vector.Goals as goal

pub returns-then-n-length : goal.returns-then-n-length
returns-then-n-length c =
    let xs = elements c.args.xs.now in
    let ys = elements c.args.ys.now in
    let times = λ (l : Factor). product_of_factors l (Numbers c.args.length) xs ys in
    record {
      found = ap times c.in-Numbers.is ∙ when-differs c.in-Numbers.n c.args.length _ c.if-n-length.true;
      refused = tt;
      memory = tt;
    }

pub returns-else-n-length : goal.returns-else-n-length
returns-else-n-length c =
    let xs = elements c.args.xs.now in
    let ys = elements c.args.ys.now in
    let times = λ (l : Factor). product_of_factors l (Numbers c.args.length) xs ys in
    let same : as_number c.dot.result ≡ times c.args.left =
    ap as_number c.dot.ensures ∙ sym
    (ap times c.in-Numbers.is ∙ when-agrees c.in-Numbers.n c.args.length _ c.if-n-length.false) in
    record {
      found = subst (λ p. IfOk c.as_number.result (λ v. p ≡ Ok (datum_of v))) same c.as_number.ensures.found;
      refused = subst (λ p. IfErr c.as_number.result (Refuses p)) same c.as_number.ensures.refused;
      memory = takes-none _ c.as_number.result c.as_number.ensures.memory;
    }

pub returns-then-n-length-2 : goal.returns-then-n-length-2
returns-then-n-length-2 c =
    let xs = elements c.args.xs.now in
    let ys = elements c.args.ys.now in
    let times = λ (l : Factor). product_of_factors l (Numbers c.args.length) xs ys in
    record {
      found = ap times c.in-Matrix.is ∙ when-differs c.in-Matrix.n c.args.length _ c.if-n-length-2.true;
      refused = tt;
      memory = tt;
    }

pub returns-in_ok-vector-in-Ok : goal.returns-in_ok-vector-in-Ok
returns-in_ok-vector-in-Ok c =
    let xs = elements c.args.xs.now in
    let ys = elements c.args.ys.now in
    let times = λ (l : Factor). product_of_factors l (Numbers c.args.length) xs ys in
    let all = by_rows xs ys in
    let is : times c.args.left ≡ as_vector all =
    ap times c.in-Matrix.is ∙ when-agrees c.in-Matrix.n c.args.length _ c.if-n-length-2.false in
    record {
      found = is ∙ vector_made all c.in-Ok.made.items c.in_ok-vector-in-Ok.field-0
          c.in-Ok.ensures.found c.in_ok-vector-in-Ok.ensures;
      refused = tt;
      memory = tt;
    }

pub returns-in_err-vector-in-Ok-clause-memory : goal.returns-in_err-vector-in-Ok-clause-memory
returns-in_err-vector-in-Ok-clause-memory c =
    let xs = elements c.args.xs.now in
    let ys = elements c.args.ys.now in
    let times = λ (l : Factor). product_of_factors l (Numbers c.args.length) xs ys in
    let all = by_rows xs ys in
    let is : times c.args.left ≡ as_vector all =
    ap times c.in-Matrix.is ∙ when-agrees c.in-Matrix.n c.args.length _ c.if-n-length-2.false in
    takes-vector _ _ _ is

pub returns-in-Err : goal.returns-in-Err
returns-in-Err c =
    let xs = elements c.args.xs.now in
    let ys = elements c.args.ys.now in
    let times = λ (l : Factor). product_of_factors l (Numbers c.args.length) xs ys in
    let all = by_rows xs ys in
    let is : times c.args.left ≡ as_vector all =
    ap times c.in-Matrix.is ∙ when-agrees c.in-Matrix.n c.args.length _ c.if-n-length-2.false in
    let fault = c.in-Err.fault in
    record {
      found = tt;
      refused = subst (λ answer. Refuses answer fault) (sym is)
          (vector_refused all fault c.in-Err.ensures.refused);
      memory = takes-vector {A = Value} _ _ (Err fault) is;
    }

pub returns-in-Other : goal.returns-in-Other
returns-in-Other c =
    let xs = elements c.args.xs.now in
    let ys = elements c.args.ys.now in
    let times = λ (l : Factor). product_of_factors l (Numbers c.args.length) xs ys in
    record {
      found = ap times c.in-Other.is;
      refused = tt;
      memory = tt;
    }
