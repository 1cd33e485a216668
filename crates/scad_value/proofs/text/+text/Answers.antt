-- A vector is printed element by element.
use Rattle.std.proofs.Common.{◌∷◌, ◌∙◌, true, refl, sym, ap}
use Rattle.scad_base.specs.Characters.{open_square}
use Rattle.text_scan.proofs.Printed.{two, three, that, next, last}
use Rattle.scad_value.specs.Texts.{text, elements_text}
use Rattle.scad_value.specs.View.{elements}
use Rattle.scad_value.proofs.Rows.{at_vector, items_in}
use Rattle.scad_value.proofs.text.+text.Goals as goal

pub push_value-returns-in-List : goal.push_value-returns-in-List
push_value-returns-in-List t c =
    that (ap (λ es. open_square ∷ elements_text true (elements es))
    (items_in _ _ _ c.deref-in-List.ensures c.as_slice-in-List.ensures.value)
    ∙ sym (ap text (at_vector _ c.in-List.all c.in-List.is)))
    c.push_vector.ensures

pub push_vector-elements-init : goal.push_vector-elements-init
push_vector-elements-init t c = λ end rest. two c.put.ensures rest

pub push_vector-elements-preserved : goal.push_vector-elements-preserved
push_vector-elements-preserved t c = λ end rest.
    c.elements.invariant end
    (that (next (λ all. elements_text c.elements.first (elements all)) {there = c.args.all.now} refl
    c.elements-test.true c.v-item.is)
    (three c.push_separator.ensures c.push_value.ensures rest))

pub push_vector-returns : goal.push_vector-returns
push_vector-returns t c =
    c.elements.invariant _
    (that (last (λ all. elements_text c.elements.first (elements all)) {there = c.args.all.now} refl
    c.elements-test.false) c.put-2.ensures)
