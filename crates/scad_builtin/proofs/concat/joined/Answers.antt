use Rattle.std.proofs.Common.{◌+◌, List, drop, ap, sym, ◌∙◌, arith}
use Rattle.std.proofs.lemmas.List.{at_drop_all}
use Rattle.scad_value.specs.declared.value.Value.{Value}
use Rattle.scad_value.specs.View.{elements}
use Rattle.scad_value.proofs.Rows.{elements-drop}
use Rattle.scad_builtin.specs.Vectors.{appended, joined}
use Rattle.scad_builtin.proofs.Rows.{appended_nothing}
use Rattle.scad_builtin.proofs.concat.joined.Goals as goal

pub returns-clause-ok : goal.returns-clause-ok
returns-clause-ok c =
    let all = c.loop-value.all.items in
    let left = at_drop_all (λ (xs : List Value). joined (elements xs)) c.args.args.now c.loop-value.value-index
    (omega arith) in
    sym (appended_nothing all) ∙ ap (appended (elements all)) (sym left) ∙ c.loop-value.invariant

pub loop-value-preserved : goal.loop-value-preserved
loop-value-preserved c =
    let args = c.args.args.now in
    let i = c.loop-value.value-index in
    c.in_ok-push_spread.ensures.ok (joined (elements (drop (i + 1) args)))
    ∙ sym (ap (λ es. appended (elements c.loop-value.all.items) (joined es))
    (elements-drop args i c.value-item.result c.loop-value-test.true c.value-item.is)) ∙ c.loop-value.invariant
