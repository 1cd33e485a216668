-- Two numbers are computed, two vectors go through their pairs, and what these give is made one by one.
use Rattle.std.proofs.Common.{rules, ◌≡◌, ◌∙◌, ◌+◌, drop, Ok, Err, IfOk, IfErr, refl, sym, ap, ap₂, subst}
use Rattle.scad_value.specs.declared.value.Value.{Value}
use Rattle.scad_value.specs.declared.value.Value.TheViews.{the_lemmas}
use Rattle.scad_value.specs.Actions.{pairing}
use Rattle.scad_value.specs.Datum.{undef, number, vector}
use Rattle.scad_value.specs.Elementwise.{as_number, by_pairs, by_pairs_of}
use Rattle.scad_value.specs.Faults.{Refuses}
use Rattle.scad_value.specs.View.{datum_of, elements}
use Rattle.scad_value.proofs.Memory.{takes-none, takes-vector}
use Rattle.scad_value.proofs.Operands.{pairs-none, pairs-other}
use Rattle.scad_value.proofs.Others.{not-number}
use Rattle.scad_value.proofs.Rows.{at_vector, elements-drop, elements-drop_all, items_in}
use Rattle.scad_value.proofs.Steps.{all_made, onto_none, step_made, step_refused, through, refused_vector, vector_made}
use Rattle.scad_value.proofs.pairs.+pairs.Goals as goal

pub by_pairs-returns-in-Some : goal.by_pairs-returns-in-Some
by_pairs-returns-in-Some t c =
    let f = pairing c.args.operation in
    let same : as_number c.at.result ≡ by_pairs f (datum_of c.args.a.now) (datum_of c.args.b.now) =
    ap as_number c.at.ensures
    ∙ ap₂ (by_pairs f) (sym (ap datum_of c.in-Number.is)) (sym c.in-Some.ensures.number) in
    record {
      found = subst (λ p. IfOk c.as_number.result (λ v. p ≡ Ok (datum_of v))) same c.as_number.ensures.found;
      refused = subst (λ p. IfErr c.as_number.result (Refuses p)) same c.as_number.ensures.refused;
      memory = takes-none _ c.as_number.result c.as_number.ensures.memory;
    }

pub by_pairs-returns-in_ok-vector-in-Ok : goal.by_pairs-returns-in_ok-vector-in-Ok
by_pairs-returns-in_ok-vector-in-Ok t c =
    let f = pairing c.args.operation in
    record {
      found = through (λ d. by_pairs f d (datum_of c.args.b.now))
          (λ es. by_pairs_of f es (elements c.in-Some-elements_of.ys.now))
          (λ es. ap (by_pairs f (vector es)) c.in-Some-elements_of.ensures.vector) _ c.in-List.xs _ c.in-List.is
          (items_in _ _ _ c.deref.ensures c.as_slice.ensures.value) ∙ vector_made _ c.in-Ok.made.items
          c.in_ok-vector-in-Ok.field-0 c.in-Ok.ensures.found c.in_ok-vector-in-Ok.ensures;
      refused = tt;
      memory = tt;
    }

pub by_pairs-returns-in_err-vector-in-Ok-clause-memory : goal.by_pairs-returns-in_err-vector-in-Ok-clause-memory
by_pairs-returns-in_err-vector-in-Ok-clause-memory t c =
    let f = pairing c.args.operation in
    takes-vector _ _ c.from_residual.result (through (λ d. by_pairs f d (datum_of c.args.b.now))
    (λ es. by_pairs_of f es (elements c.in-Some-elements_of.ys.now))
    (λ es. ap (by_pairs f (vector es)) c.in-Some-elements_of.ensures.vector) _
    c.in-List.xs _ c.in-List.is (items_in _ _ _ c.deref.ensures c.as_slice.ensures.value))

pub by_pairs-returns-in-Err : goal.by_pairs-returns-in-Err
by_pairs-returns-in-Err t c =
    let f = pairing c.args.operation in
    let lent = items_in _ _ _ c.deref.ensures c.as_slice.ensures.value in
    record {
      found = tt;
      refused = refused_vector (λ d. by_pairs f d (datum_of c.args.b.now))
          (λ es. by_pairs_of f es (elements c.in-Some-elements_of.ys.now))
          (λ es. ap (by_pairs f (vector es)) c.in-Some-elements_of.ensures.vector) _
          c.in-List.xs _ c.in-Err.fault c.in-List.is lent
          c.in-Err.ensures.refused;
      memory = takes-vector {A = Value} _ _ (Err c.in-Err.fault) (through
          (λ d. by_pairs f d (datum_of c.args.b.now)) (λ es. by_pairs_of f es (elements c.in-Some-elements_of.ys.now))
          (λ es. ap (by_pairs f (vector es)) c.in-Some-elements_of.ensures.vector) _ c.in-List.xs _ c.in-List.is lent);
    }

pub by_pairs-returns-in-None-elements_of : goal.by_pairs-returns-in-None-elements_of
by_pairs-returns-in-None-elements_of t c =
    let f = pairing c.args.operation in
    record {
      found = ap (λ d. by_pairs f d (datum_of c.args.b.now)) (at_vector _ c.in-List.xs c.in-List.is)
          ∙ pairs-other f _ _ c.in-None-elements_of.ensures.other;
      refused = tt;
      memory = tt;
    }

pub by_pairs_of-pairs-init : goal.by_pairs_of-pairs-init
by_pairs_of-pairs-init t c = onto_none _ _ c.new-made.ensures.items

pub by_pairs_of-returns-then-i-ys : goal.by_pairs_of-returns-then-i-ys
by_pairs_of-returns-then-i-ys t c =
    let f = pairing c.args.operation in
    record {
      found = all_made c.pairs.made.items _ _ (ap (by_pairs_of f (elements (drop c.pairs.i c.args.xs.now)))
          (elements-drop_all c.args.ys.now c.pairs.i c.if-i-ys.true) ∙ pairs-none f _) c.pairs.invariant;
      refused = tt;
    }

pub by_pairs_of-returns : goal.by_pairs_of-returns
by_pairs_of-returns t c =
    let f = pairing c.args.operation in
    record {
      found = all_made c.pairs.made.items _ _
          (ap (λ es. by_pairs_of f es (elements (drop c.pairs.i c.args.ys.now)))
          (elements-drop_all c.args.xs.now c.pairs.i c.pairs-test.false)) c.pairs.invariant;
      refused = tt;
    }

pub by_pairs_of-pairs-preserved : goal.by_pairs_of-pairs-preserved
by_pairs_of-pairs-preserved t c =
    let f = pairing c.args.operation in
    rw c.in_ok-push-in-Ok.ensures.items
    (step_made c.pairs.made.items c.in-Ok.element (by_pairs f (datum_of c.index-xs-i.result)
    (datum_of c.index-ys-i.result)) _ (by_pairs_of f (elements (drop (c.pairs.i + 1) c.args.xs.now))
    (elements (drop (c.pairs.i + 1) c.args.ys.now))) _
    (ap₂ (by_pairs_of f) (elements-drop c.args.xs.now c.pairs.i c.index-xs-i.result c.pairs-test.true
    c.index-xs-i.is) (elements-drop c.args.ys.now c.pairs.i c.index-ys-i.result c.if-i-ys.false c.index-ys-i.is))
    c.in-Ok.ensures.found c.pairs.invariant)

pub by_pairs_of-returns-in-Err-clause-refused : goal.by_pairs_of-returns-in-Err-clause-refused
by_pairs_of-returns-in-Err-clause-refused t c =
    let f = pairing c.args.operation in
    step_refused c.pairs.made.items c.in-Err.fault (by_pairs f (datum_of c.index-xs-i.result)
    (datum_of c.index-ys-i.result)) _ (by_pairs_of f (elements (drop (c.pairs.i + 1) c.args.xs.now))
    (elements (drop (c.pairs.i + 1) c.args.ys.now))) _
    (ap₂ (by_pairs_of f) (elements-drop c.args.xs.now c.pairs.i c.index-xs-i.result c.pairs-test.true
    c.index-xs-i.is) (elements-drop c.args.ys.now c.pairs.i c.index-ys-i.result c.if-i-ys.false c.index-ys-i.is))
    c.in-Err.ensures.refused c.pairs.invariant

pub by_pairs-returns-in-None : goal.by_pairs-returns-in-None
by_pairs-returns-in-None t c =
    let f = pairing c.args.operation in
    record {
      found = subst (λ d. by_pairs f d (datum_of c.args.b.now) ≡ Ok undef) (sym (ap datum_of c.in-Number.is))
          (not-number (λ d. by_pairs f (number c.in-Number.x) d ≡ Ok undef) refl (λ x. refl) (λ x. refl) (λ x. refl)
          (λ s t e. refl) _ c.in-None.ensures.other);
      refused = tt;
      memory = tt;
    }

pub by_pairs-returns-in_default : goal.by_pairs-returns-in_default
by_pairs-returns-in_default t c = search (rules, the_lemmas, c.in_default.not-Number, c.in_default.not-List)
