use Rattle.std.proofs.Common.{◌≡◌, Ok, refl, sym, ap, subst, rules}
use Rattle.scad_value.specs.declared.value.Value.TheViews.{the_lemmas}
use Rattle.scad_value.specs.Datum.{undef, number}
use Rattle.scad_value.specs.Operators.{remainder}
use Rattle.scad_value.specs.View.{datum_of}
use Rattle.scad_value.proofs.Others.{but-number}
use Rattle.scad_value.proofs.operator.remainder.Goals as goal

pub returns-in_default-b : goal.returns-in_default-b
returns-in_default-b c =
    record {
      found = subst (λ d. remainder d (datum_of c.args.b.now) ≡ Ok undef) (sym (ap datum_of c.in-Number.is))
          (but-number (λ d. remainder (number c.in-Number.x) d ≡ Ok undef) refl (λ x. refl) (λ x. refl) (λ x. refl)
          (λ s t e. refl) _ c.in_default-b.not-Number);
      refused = tt;
      memory = tt;
    }

pub returns-in_default : goal.returns-in_default
returns-in_default c = search (rules, the_lemmas, c.in_default.not-Number)
