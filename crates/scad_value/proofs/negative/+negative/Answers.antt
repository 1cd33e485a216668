use Rattle.std.proofs.Common.{rules, ◌≡◌, ◌∙◌, sym, ap, subst, IfOk}
use Rattle.scad_value.specs.declared.value.Value.TheViews.{the_lemmas}
use Rattle.scad_value.specs.Datum.{vector}
use Rattle.scad_value.specs.Negative.{negative, negatives}
use Rattle.scad_value.specs.View.{datum_of, elements}
use Rattle.scad_value.proofs.Rows.{at_vector, items_in, negated}
use Rattle.scad_value.proofs.negative.+negative.Goals as goal

pub negative-returns-in-Ok-clause-value : goal.negative-returns-in-Ok-clause-value
negative-returns-in-Ok-clause-value t c =
    subst (λ d. IfOk c.vector.result (λ v. datum_of v ≡ d)) (ap vector c.in-Ok.ensures ∙ ap
    (λ es. vector (negatives (elements es))) (items_in _ _ _ c.deref.ensures c.as_slice.ensures.value)
    ∙ sym (ap negative (at_vector _ c.in-List.all c.in-List.is))) c.vector.ensures

pub negatives-elements-preserved : goal.negatives-elements-preserved
negatives-elements-preserved t c =
    rw c.in_ok-push.ensures.items
    (negated c.elements.made.items c.args.all.now c.elements.v-index c.v-item.result c.in_ok-negative.field-0 _
    c.elements-test.true c.v-item.is c.in_ok-negative.ensures.value c.elements.invariant)

pub negative-returns-in_default : goal.negative-returns-in_default
negative-returns-in_default t c = search (rules, the_lemmas, c.in_default.not-Number, c.in_default.not-List)
