use Rattle.std.proofs.Common.{rules, ◌≡◌, ◌∙◌, sym, ap, subst, IfOk, IfErr, Ok}
use Rattle.scad_value.specs.declared.value.Value.TheViews.{the_lemmas}
use Rattle.scad_value.specs.Faults.{Refuses}
use Rattle.scad_value.specs.Operators.{quotient}
use Rattle.scad_value.specs.View.{datum_of}
use Rattle.scad_value.proofs.Quotients.{each-under}
use Rattle.scad_value.proofs.operator.quotient.Goals as goal

pub returns-in-Number-clause-found : goal.returns-in-Number-clause-found
returns-in-Number-clause-found c =
    subst (λ q. IfOk c.each.result (λ v. q ≡ Ok (datum_of v))) (each-under c.in-Number.x (datum_of c.args.b.now) ∙ ap
    (λ v. quotient (datum_of v) (datum_of c.args.b.now)) (sym c.in-Number.is)) c.each.ensures.found

pub returns-in-Number-clause-refused : goal.returns-in-Number-clause-refused
returns-in-Number-clause-refused c =
    subst (λ q. IfErr c.each.result (Refuses q)) (each-under c.in-Number.x (datum_of c.args.b.now) ∙ ap
    (λ v. quotient (datum_of v) (datum_of c.args.b.now)) (sym c.in-Number.is)) c.each.ensures.refused

pub returns-in_default : goal.returns-in_default
returns-in_default c = search (rules, the_lemmas, c.in_default.not-Number, c.in_default.not-List)
