use Rattle.std.proofs.Common.{◌≡◌, ◌∙◌, ◌+◌, ◌&&◌, drop, false, refl, sym, ap, ap₂, subst}
use Rattle.scad_value.specs.Comparison.{equal, equal_all}
use Rattle.scad_value.specs.Datum.{undef, boolean, number, string, range}
use Rattle.scad_value.specs.View.{datum_of, elements}
use Rattle.scad_value.proofs.Equality.{equal_all-lengths, equal_all-next, equal_all-last}
use Rattle.scad_value.proofs.Others.{but-undef, but-boolean, but-string, but-range, not-number}
use Rattle.scad_value.proofs.Rows.{at_vector, items_in}
use Rattle.scad_value.proofs.comparison.+equal.Goals as goal

pub equal-returns-in-Some-elements_of : goal.equal-returns-in-Some-elements_of
equal-returns-in-Some-elements_of t c =
    c.equal_all.ensures
    ∙ ap (λ es. equal_all (elements es) (elements c.in-Some-elements_of.ys.now))
    (items_in _ _ _ c.deref-in-Some-elements_of.ensures c.as_slice-in-Some-elements_of.ensures.value)
    ∙ sym (ap₂ equal (at_vector _ c.in-List.xs c.in-List.is) c.in-Some-elements_of.ensures.vector)

pub equal_all-returns-then-xs-ys : goal.equal_all-returns-then-xs-ys
equal_all-returns-then-xs-ys t c = sym (equal_all-lengths c.args.xs.now c.args.ys.now c.if-xs-ys.true)

pub equal-returns-in_default : goal.equal-returns-in_default
equal-returns-in_default t c =
    subst (λ d. false ≡ equal d (datum_of c.args.b.now)) (sym (ap datum_of c.in-Undef.is))
    (but-undef (λ d. false ≡ equal undef d) (λ x. refl) (λ x. refl) (λ x. refl) (λ x. refl) (λ s t e. refl) _ c.in_default.not-Undef)

pub equal-returns-in_default-b : goal.equal-returns-in_default-b
equal-returns-in_default-b t c =
    subst (λ d. false ≡ equal d (datum_of c.args.b.now)) (sym (ap datum_of c.in-Bool.is))
    (but-boolean (λ d. false ≡ equal (boolean c.in-Bool.x) d) refl (λ x. refl) (λ x. refl) (λ x. refl) (λ s t e. refl) _ c.in_default-b.not-Bool)

pub equal-returns-in-None : goal.equal-returns-in-None
equal-returns-in-None t c =
    subst (λ d. false ≡ equal d (datum_of c.args.b.now)) (sym (ap datum_of c.in-Number.is))
    (not-number (λ d. false ≡ equal (number c.in-Number.x) d) refl (λ x. refl) (λ x. refl) (λ x. refl)
    (λ s t e. refl) _ c.in-None.ensures.other)

pub equal-returns-in_default-b-2 : goal.equal-returns-in_default-b-2
equal-returns-in_default-b-2 t c =
    subst (λ d. false ≡ equal d (datum_of c.args.b.now)) (sym (ap datum_of c.in-Str.is))
    (but-string (λ d. false ≡ equal (string c.in-Str.x.value) d) refl (λ x. refl) (λ x. refl) (λ x. refl)
    (λ s t e. refl) _ c.in_default-b-2.not-Str)

pub equal-returns-in_default-b-3 : goal.equal-returns-in_default-b-3
equal-returns-in_default-b-3 t c =
    subst (λ d. false ≡ equal d (datum_of c.args.b.now)) (sym (ap datum_of c.in-Range.is))
    (but-range (λ d. false ≡ equal (range c.in-Range.start c.in-Range.step c.in-Range.end) d) refl (λ x. refl)
    (λ x. refl) (λ x. refl) (λ x. refl) _ c.in_default-b-3.not-Range)

pub equal_all-pairs-preserved : goal.equal_all-pairs-preserved
equal_all-pairs-preserved t c =
    let xs = c.args.xs.now in
    let ys = c.args.ys.now in
    let i = c.pairs.i in
    sym (equal_all-next xs ys i c.pairs-test.true c.if-xs-ys.false c.index-xs-i.is c.index-ys-i.is
    ∙ ap (λ b. b && equal_all (elements (drop (i + 1) xs)) (elements (drop (i + 1) ys))) (sym c.if-not-equal.ensures))
    ∙ c.pairs.invariant

pub equal_all-returns-then-not-equal : goal.equal_all-returns-then-not-equal
equal_all-returns-then-not-equal t c =
    let xs = c.args.xs.now in
    let ys = c.args.ys.now in
    let i = c.pairs.i in
    sym (equal_all-next xs ys i c.pairs-test.true c.if-xs-ys.false c.index-xs-i.is c.index-ys-i.is
    ∙ ap (λ b. b && equal_all (elements (drop (i + 1) xs)) (elements (drop (i + 1) ys))) (sym c.if-not-equal.ensures))
    ∙ c.pairs.invariant

pub equal_all-returns : goal.equal_all-returns
equal_all-returns t c =
    equal_all-last c.args.xs.now c.args.ys.now c.pairs.i c.pairs-test.false c.if-xs-ys.false ∙ c.pairs.invariant
