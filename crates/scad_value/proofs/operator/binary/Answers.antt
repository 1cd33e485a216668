-- Each operator is one row of the definition.
use Rattle.std.proofs.Common.{◌≡◌, ◌∙◌, Ok, IfOk, IfErr, sym, ap, subst}
use Rattle.std.specs.Prelude.{not}
use Rattle.scad_ast.specs.declared.operator.BinOp.{BinOp}
use Rattle.scad_value.specs.Datum.{boolean}
use Rattle.scad_value.specs.Faults.{Refuses}
use Rattle.scad_value.specs.Memory.{begins_list, TakesMemoryFor}
use Rattle.scad_value.specs.Operators.{op}
use Rattle.scad_value.specs.View.{datum_of}
use Rattle.scad_value.proofs.Memory.{takes-none}
use Rattle.scad_value.proofs.operator.binary.Goals as goal

pub returns-in-Eq : goal.returns-in-Eq
returns-in-Eq c =
    record {
      found = ap (λ k. op k (datum_of c.args.a.now) (datum_of c.args.b.now)) c.in-Eq.is
          ∙ ap (λ b. Ok (boolean b)) (sym c.equal.ensures);
      refused = tt;
      memory = tt;
    }

pub returns-in-Ne : goal.returns-in-Ne
returns-in-Ne c =
    record {
      found = ap (λ k. op k (datum_of c.args.a.now) (datum_of c.args.b.now)) c.in-Ne.is
          ∙ ap (λ b. Ok (boolean (not b))) (sym c.equal-in-Ne.ensures);
      refused = tt;
      memory = tt;
    }

pub returns-in-Lt : goal.returns-in-Lt
returns-in-Lt c =
    record {
      found = ap (λ k. op k (datum_of c.args.a.now) (datum_of c.args.b.now)) c.in-Lt.is
          ∙ ap Ok (sym c.less.ensures);
      refused = tt;
      memory = tt;
    }

pub returns-in-Le : goal.returns-in-Le
returns-in-Le c =
    record {
      found = ap (λ k. op k (datum_of c.args.a.now) (datum_of c.args.b.now)) c.in-Le.is
          ∙ ap Ok (sym c.less_or_equal.ensures);
      refused = tt;
      memory = tt;
    }

pub returns-in-Gt : goal.returns-in-Gt
returns-in-Gt c =
    record {
      found = ap (λ k. op k (datum_of c.args.a.now) (datum_of c.args.b.now)) c.in-Gt.is
          ∙ ap Ok (sym c.greater.ensures);
      refused = tt;
      memory = tt;
    }

pub returns-in-Ge : goal.returns-in-Ge
returns-in-Ge c =
    record {
      found = ap (λ k. op k (datum_of c.args.a.now) (datum_of c.args.b.now)) c.in-Ge.is
          ∙ ap Ok (sym c.greater_or_equal.ensures);
      refused = tt;
      memory = tt;
    }

pub returns-in-Add : goal.returns-in-Add
returns-in-Add c =
    let row = λ (k : BinOp). op k (datum_of c.args.a.now) (datum_of c.args.b.now) in
    let is = sym c.in-Add.is in
    record {
      found = subst (λ k. IfOk c.by_pairs.result (λ v. row k ≡ Ok (datum_of v))) is c.by_pairs.ensures.found;
      refused = subst (λ k. IfErr c.by_pairs.result (Refuses (row k))) is c.by_pairs.ensures.refused;
      memory = subst (λ k. TakesMemoryFor (begins_list (row k)) c.by_pairs.result) is c.by_pairs.ensures.memory;
    }

pub returns-in-Sub : goal.returns-in-Sub
returns-in-Sub c =
    let row = λ (k : BinOp). op k (datum_of c.args.a.now) (datum_of c.args.b.now) in
    let is = sym c.in-Sub.is in
    record {
      found = subst (λ k. IfOk c.by_pairs-in-Sub.result (λ v. row k ≡ Ok (datum_of v))) is
          c.by_pairs-in-Sub.ensures.found;
      refused = subst (λ k. IfErr c.by_pairs-in-Sub.result (Refuses (row k))) is
          c.by_pairs-in-Sub.ensures.refused;
      memory = subst (λ k. TakesMemoryFor (begins_list (row k)) c.by_pairs-in-Sub.result) is
          c.by_pairs-in-Sub.ensures.memory;
    }

pub returns-in-Mul : goal.returns-in-Mul
returns-in-Mul c =
    let row = λ (k : BinOp). op k (datum_of c.args.a.now) (datum_of c.args.b.now) in
    let is = sym c.in-Mul.is in
    record {
      found = subst (λ k. IfOk c.product.result (λ v. row k ≡ Ok (datum_of v))) is c.product.ensures.found;
      refused = subst (λ k. IfErr c.product.result (Refuses (row k))) is c.product.ensures.refused;
      memory = subst (λ k. TakesMemoryFor (begins_list (row k)) c.product.result) is c.product.ensures.memory;
    }

pub returns-in-Div : goal.returns-in-Div
returns-in-Div c =
    let row = λ (k : BinOp). op k (datum_of c.args.a.now) (datum_of c.args.b.now) in
    let is = sym c.in-Div.is in
    record {
      found = subst (λ k. IfOk c.quotient.result (λ v. row k ≡ Ok (datum_of v))) is c.quotient.ensures.found;
      refused = subst (λ k. IfErr c.quotient.result (Refuses (row k))) is c.quotient.ensures.refused;
      memory = subst (λ k. TakesMemoryFor (begins_list (row k)) c.quotient.result) is c.quotient.ensures.memory;
    }

pub returns-in-Rem : goal.returns-in-Rem
returns-in-Rem c =
    let row = λ (k : BinOp). op k (datum_of c.args.a.now) (datum_of c.args.b.now) in
    let is = sym c.in-Rem.is in
    record {
      found = subst (λ k. IfOk c.remainder.result (λ v. row k ≡ Ok (datum_of v))) is c.remainder.ensures.found;
      refused = subst (λ k. IfErr c.remainder.result (Refuses (row k))) is c.remainder.ensures.refused;
      memory = takes-none _ c.remainder.result c.remainder.ensures.memory;
    }
