-- The square of the next number is added to the sum of those before it.
use Rattle.std.proofs.Common.{◌+◌, ℤ, List, drop, ap, sym, ◌∙◌, arith}
use Rattle.std.proofs.lemmas.Result.{err_from_is_err_and}
use Rattle.scad_value.specs.View.{elements}
use Rattle.scad_value.proofs.Rows.{elements-drop_all}
use Rattle.scad_builtin.specs.Arguments.{numbers}
use Rattle.scad_builtin.specs.Numbers.{squares_onto}
use Rattle.scad_builtin.proofs.Squares.{behind_sum, behind_square, next_square}
use Rattle.scad_builtin.proofs.norm.squares.Goals as goal

pub loop-value-preserved : goal.loop-value-preserved
loop-value-preserved c =
    let total = c.loop-value.total in
    let more : List ℤ = numbers (elements (drop (c.loop-value.value-index + 1) c.args.values.now)) in
    record {
      sign = c.in_ok-total.ensures.sign;
      sum =
          ap (behind_sum more) c.in_ok-total.ensures.value
          ∙ ap (behind_square total more) c.in_ok-square.ensures.value
          ∙ sym (next_square c.args.values.now c.loop-value.value-index c.value-item.result total c.amount.result
          c.loop-value-test.true c.value-item.is c.amount.ensures) ∙ c.loop-value.invariant.sum;
    }

pub returns-in_err-square-clause-value : goal.returns-in_err-square-clause-value
returns-in_err-square-clause-value c =
    let total = c.loop-value.total in
    let more : List ℤ = numbers (elements (drop (c.loop-value.value-index + 1) c.args.values.now)) in
    let p = err_from_is_err_and c.from_residual.result c.from_residual.ensures.1 in
    rw (p.1, p.2) (
    ap (behind_square total more) c.in_err-square.ensures.value
    ∙ sym (next_square c.args.values.now c.loop-value.value-index c.value-item.result total c.amount.result
    c.loop-value-test.true c.value-item.is c.amount.ensures) ∙ c.loop-value.invariant.sum)

pub returns-in_err-total-clause-value : goal.returns-in_err-total-clause-value
returns-in_err-total-clause-value c =
    let total = c.loop-value.total in
    let more : List ℤ = numbers (elements (drop (c.loop-value.value-index + 1) c.args.values.now)) in
    let p = err_from_is_err_and c.from_residual-in_err-total.result c.from_residual-in_err-total.ensures.1 in
    rw (p.1, p.2) (
    ap (behind_sum more) c.in_err-total.ensures.value
    ∙ ap (behind_square total more) c.in_ok-square.ensures.value
    ∙ sym (next_square c.args.values.now c.loop-value.value-index c.value-item.result total c.amount.result
    c.loop-value-test.true c.value-item.is c.amount.ensures) ∙ c.loop-value.invariant.sum)

pub returns-clause-value : goal.returns-clause-value
returns-clause-value c =
    ap (λ es. squares_onto c.loop-value.total (numbers es))
    (sym (elements-drop_all c.args.values.now c.loop-value.value-index (omega arith))) ∙ c.loop-value.invariant.sum
