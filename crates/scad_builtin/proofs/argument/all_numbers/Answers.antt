-- The next value is a number, or not all are.
use Rattle.std.proofs.Common.{◌+◌, ◌&&◌, Bool, drop, ap, sym, ◌∙◌}
use Rattle.scad_value.specs.Products.{all_numbers}
use Rattle.scad_value.specs.View.{elements}
use Rattle.scad_value.proofs.Rows.{elements-drop}
use Rattle.scad_builtin.proofs.argument.all_numbers.Goals as goal

pub loop-value-preserved : goal.loop-value-preserved
loop-value-preserved c =
    let values = c.args.values.now in
    let i = c.loop-value.value-index in
    let rest : Bool = all_numbers (elements (drop (i + 1) values)) in
    ap (λ b. b && rest) (sym c.if-not-is_number.false ∙ c.is_number.ensures)
    ∙ sym (ap all_numbers (elements-drop values i c.value-item.result c.loop-value-test.true c.value-item.is))
    ∙ c.loop-value.invariant

pub returns-then-not-is_number : goal.returns-then-not-is_number
returns-then-not-is_number c =
    let values = c.args.values.now in
    let i = c.loop-value.value-index in
    let rest : Bool = all_numbers (elements (drop (i + 1) values)) in
    ap (λ b. b && rest) (sym c.if-not-is_number.true ∙ c.is_number.ensures)
    ∙ sym (ap all_numbers (elements-drop values i c.value-item.result c.loop-value-test.true c.value-item.is))
    ∙ c.loop-value.invariant
