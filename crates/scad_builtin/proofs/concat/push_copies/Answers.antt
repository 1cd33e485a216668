-- A copy of the next value goes behind those before it.
use Rattle.std.proofs.Common.{◌+◌, drop, ap, sym, ◌∙◌}
use Rattle.scad_value.specs.View.{elements}
use Rattle.scad_value.proofs.Rows.{elements-drop, elements-drop_all}
use Rattle.scad_builtin.specs.Vectors.{appended}
use Rattle.scad_builtin.proofs.concat.push_copies.Goals as goal

pub loop-value-preserved : goal.loop-value-preserved
loop-value-preserved c = λ rest.
    let values = c.args.values.now in
    let i = c.loop-value.value-index in
    c.in_ok-push_copy.ensures.ok (appended (elements (drop (i + 1) values)) rest)
    ∙ sym (ap (λ es. appended (elements c.loop-value.onto.items) (appended es rest))
    (elements-drop values i c.value-item.result c.loop-value-test.true c.value-item.is))
    ∙ c.loop-value.invariant rest

pub returns-clause-ok : goal.returns-clause-ok
returns-clause-ok c = λ rest.
    ap (λ es. appended (elements c.loop-value.onto.items) (appended es rest))
    (sym (elements-drop_all c.args.values.now c.loop-value.value-index c.loop-value-test.false))
    ∙ c.loop-value.invariant rest
