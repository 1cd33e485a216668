use Rattle.std.proofs.Common.{◌≡◌, None, refl, sym, ap, subst}
use Rattle.scad_value.specs.Comparison.{order}
use Rattle.scad_value.specs.Datum.{boolean, number, string}
use Rattle.scad_value.specs.View.{datum_of}
use Rattle.scad_value.proofs.Others.{but-boolean, but-string, not-number}
use Rattle.scad_value.proofs.comparison.order.Goals as goal

pub returns-in-None : goal.returns-in-None
returns-in-None c =
    subst (λ d. None ≡ order d (datum_of c.args.b.now)) (sym (ap datum_of c.in-Number.is))
    (not-number (λ d. None ≡ order (number c.in-Number.x) d) refl (λ x. refl) (λ x. refl) (λ x. refl)
    (λ s t e. refl) _ c.in-None.ensures.other)

pub returns-in_default-b : goal.returns-in_default-b
returns-in_default-b c =
    subst (λ d. None ≡ order d (datum_of c.args.b.now)) (sym (ap datum_of c.in-Str.is))
    (but-string (λ d. None ≡ order (string c.in-Str.x.value) d) refl (λ x. refl) (λ x. refl) (λ x. refl)
    (λ s t e. refl) _ c.in_default-b.not-Str)

pub returns-in_default-b-2 : goal.returns-in_default-b-2
returns-in_default-b-2 c =
    subst (λ d. None ≡ order d (datum_of c.args.b.now)) (sym (ap datum_of c.in-Bool.is))
    (but-boolean (λ d. None ≡ order (boolean c.in-Bool.x) d) refl (λ x. refl) (λ x. refl) (λ x. refl)
    (λ s t e. refl) _ c.in_default-b-2.not-Bool)
