-- A number is computed, a vector goes through its elements, and these are made one by one.
use Rattle.std.proofs.Common.{rules, ◌≡◌, ◌∙◌, ◌+◌, drop, Ok, Err, IfOk, IfErr, refl, sym, ap, subst}
use Rattle.scad_value.specs.declared.value.Value.{Value}
use Rattle.scad_value.specs.declared.value.Value.TheViews.{the_lemmas}
use Rattle.scad_value.specs.Actions.{action}
use Rattle.scad_value.specs.Elementwise.{as_number, each, each_of}
use Rattle.scad_value.specs.Faults.{Refuses}
use Rattle.scad_value.specs.View.{datum_of, elements}
use Rattle.scad_value.proofs.Memory.{takes-none, takes-vector}
use Rattle.scad_value.proofs.Rows.{elements-drop, elements-drop_all, items_in}
use Rattle.scad_value.proofs.Steps.{all_made, onto_none, step_made, step_refused, through, refused_vector, vector_made}
use Rattle.scad_value.proofs.elementwise.+each.Goals as goal

pub each-returns-in-Number : goal.each-returns-in-Number
each-returns-in-Number t c =
    let f = action c.args.operation.now in
    let same : as_number c.at.result ≡ each f (datum_of c.args.a.now) =
    ap as_number c.at.ensures ∙ ap (λ v. each f (datum_of v)) (sym c.in-Number.is) in
    record {
      found = subst (λ p. IfOk c.as_number.result (λ v. p ≡ Ok (datum_of v))) same c.as_number.ensures.found;
      refused = subst (λ p. IfErr c.as_number.result (Refuses p)) same c.as_number.ensures.refused;
      memory = takes-none _ c.as_number.result c.as_number.ensures.memory;
    }

pub each-returns-in_ok-vector-in-Ok : goal.each-returns-in_ok-vector-in-Ok
each-returns-in_ok-vector-in-Ok t c =
    let f = action c.args.operation.now in
    record {
      found = through (each f) (each_of f) (λ es. refl) _ c.in-List.all _ c.in-List.is
          (items_in _ _ _ c.deref.ensures c.as_slice.ensures.value) ∙ vector_made _ c.in-Ok.made.items
          c.in_ok-vector-in-Ok.field-0 c.in-Ok.ensures.found c.in_ok-vector-in-Ok.ensures;
      refused = tt;
      memory = tt;
    }

pub each-returns-in_err-vector-in-Ok-clause-memory : goal.each-returns-in_err-vector-in-Ok-clause-memory
each-returns-in_err-vector-in-Ok-clause-memory t c =
    let f = action c.args.operation.now in
    takes-vector _ _ c.from_residual.result (through (each f) (each_of f) (λ es. refl) _ c.in-List.all _ c.in-List.is
    (items_in _ _ _ c.deref.ensures c.as_slice.ensures.value))

pub each-returns-in-Err : goal.each-returns-in-Err
each-returns-in-Err t c =
    let f = action c.args.operation.now in
    let lent = items_in _ _ _ c.deref.ensures c.as_slice.ensures.value in
    record {
      found = tt;
      refused = refused_vector (each f) (each_of f) (λ es. refl) _ c.in-List.all _ c.in-Err.fault c.in-List.is lent
          c.in-Err.ensures.refused;
      memory = takes-vector {A = Value} _ _ (Err c.in-Err.fault)
          (through (each f) (each_of f) (λ es. refl) _ c.in-List.all _ c.in-List.is lent);
    }

pub each-returns-in_default : goal.each-returns-in_default
each-returns-in_default t c = search (rules, the_lemmas, c.in_default.not-Number, c.in_default.not-List)

pub each_of-elements-init : goal.each_of-elements-init
each_of-elements-init t c = onto_none _ _ c.in_ok-made.ensures.items

pub each_of-elements-preserved : goal.each_of-elements-preserved
each_of-elements-preserved t c =
    let f = action c.args.operation.now in
    rw c.in_ok-push-in-Ok.ensures.items
    (step_made c.elements.made.items c.in-Ok.element (each f (datum_of c.v-item.result)) _
    (each_of f (elements (drop (c.elements.v-index + 1) c.args.all.now))) _
    (ap (each_of f) (elements-drop c.args.all.now c.elements.v-index c.v-item.result c.elements-test.true
    c.v-item.is)) c.in-Ok.ensures.found c.elements.invariant)

pub each_of-returns-in-Err-clause-refused : goal.each_of-returns-in-Err-clause-refused
each_of-returns-in-Err-clause-refused t c =
    let f = action c.args.operation.now in
    step_refused c.elements.made.items c.in-Err.fault (each f (datum_of c.v-item.result)) _
    (each_of f (elements (drop (c.elements.v-index + 1) c.args.all.now))) _
    (ap (each_of f) (elements-drop c.args.all.now c.elements.v-index c.v-item.result c.elements-test.true
    c.v-item.is)) c.in-Err.ensures.refused c.elements.invariant

pub each_of-returns : goal.each_of-returns
each_of-returns t c =
    let f = action c.args.operation.now in
    record {
      found = all_made c.elements.made.items _ _ (ap (each_of f)
          (elements-drop_all c.args.all.now c.elements.v-index c.elements-test.false)) c.elements.invariant;
      refused = tt;
    }
