use Rattle.std.proofs.Common.{◌≡◌, refl, sym, ap, subst}
use Rattle.scad_value.specs.Datum.{undef, number}
use Rattle.scad_value.specs.View.{datum_of}
use Rattle.scad_value.proofs.Others.{but-number}
use Rattle.scad_operations.specs.Values.{ranged_by_one}
use Rattle.scad_operations.proofs.operations.range_by_one.Goals as goal

pub returns-in_default-end : goal.returns-in_default-end
unfolding ranged_by_one
returns-in_default-end c =
    subst (λ d. undef ≡ ranged_by_one d (datum_of c.args.end.now)) (sym (ap datum_of c.in-Number.is))
    (but-number (λ d. undef ≡ ranged_by_one (number c.in-Number.a) d) refl (λ b. refl) (λ cs. refl) (λ es. refl)
    (λ s t e. refl) _ c.in_default-end.not-Number)

pub returns-in_default : goal.returns-in_default
unfolding ranged_by_one
returns-in_default c =
    but-number (λ d. undef ≡ ranged_by_one d (datum_of c.args.end.now)) refl (λ b. refl) (λ cs. refl) (λ es. refl)
    (λ s t e. refl) _ c.in_default.not-Number
