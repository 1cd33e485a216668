use Rattle.std.proofs.Common.{◌≡◌, length, get_or, IfSome, ap, ◌∙◌, subst}
use Rattle.std.specs.Prelude.{nat_lt, option_and_then}
use Rattle.scad_scope.specs.Tables.{item_at}
use Rattle.scad_scope.proofs.Tables.{place-got, item-lent}
use Rattle.scad_scope.proofs.entries.item_by.Goals as goal

pub returns-in-Some : goal.returns-in-Some
returns-in-Some c =
    let all = c.args.scope.now.items in
    item-lent all c.in-Some.place.now c.get-in-Some.result
    (c.get-in-Some.ensures.lookup.0 ∙ ap (λ l. nat_lt c.in-Some.place.now (length l)) c.deref.ensures.value)
    (subst (λ l. IfSome c.get-in-Some.result (λ i. i.now ≡ get_or l c.in-Some.place.now i.now)) c.deref.ensures.value
    c.get-in-Some.ensures.lookup.1)
    ∙ ap (option_and_then (item_at all)) (c.in-Some.ensures ∙ place-got c.args.name.now c.args.rows.now)

pub returns-in-None : goal.returns-in-None
returns-in-None c =
    ap (option_and_then (item_at c.args.scope.now.items))
    (c.in-None.ensures ∙ place-got c.args.name.now c.args.rows.now)
