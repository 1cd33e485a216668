-- A flat edge comes behind those before it.
use Rattle.std.proofs.Common.{◌++◌, ◌∷◌, [], ℕ, List, Bool, All, sym, subst, ap, ap₂, ◌∙◌}
use Rattle.std.specs.Prelude.{if◌then◌else◌}
use Rattle.std.specs.Cmp.{signed_Decides}
use Rattle.std.proofs.lemmas.List.{map_push}
use Rattle.std.proofs.lemmas.List.Elements.{All-push}
use Rattle.slice_outlines.specs.declared.flat.Flat.{Flat}
use Rattle.slice_outlines.specs.Flats.{numbers_of, IsFlatOf}
use Rattle.slice_outlines.proofs.flats.push_flat.Goals as goal

pub flat_of-requires-clause-flat : goal.flat_of-requires-clause-flat
flat_of-requires-clause-flat c =
    (signed_Decides c.args.e.now.a.y c.args.e.now.b.y).0 (sym c.is_flat.ensures ∙ c.if-is_flat.true)

pub returns-in_ok-push-clause-numbers : goal.returns-in_ok-push-clause-numbers
returns-in_ok-push-clause-numbers c =
    let out : List Flat = c.args.out.now.items in
    ap numbers_of c.in_ok-push.ensures.items
    ∙ map_push (λ (f : Flat). f.number) out c.flat_of.result
    ∙ ap₂ (λ (k : ℕ) (t : Bool). numbers_of out ++ (if t then k ∷ [] else [])) c.flat_of.ensures.number
    (sym c.if-is_flat.true ∙ c.is_flat.ensures)

pub returns-in_ok-push-clause-each : goal.returns-in_ok-push-clause-each
returns-in_ok-push-clause-each c = λ edges there same all.
    subst (All (IsFlatOf edges)) (sym c.in_ok-push.ensures.items)
    (All-push (IsFlatOf edges) c.args.out.now.items c.flat_of.result all (c.flat_of.ensures.is edges there same))
