use Rattle.std.proofs.Common.{ℕ, List, [], ◌∷◌, ◌++◌, get_or, Bor, refl, ap, sym, ◌∙◌, arith}
use Rattle.std.specs.Prelude.{slice_set}
use Rattle.scad_bindings.specs.NamePlaces.{put_in, place_in}
use Rattle.scad_bindings.proofs.NamePlaces.{name_in, lent_name, place-told, place-untold, places-more, place-kept, put-there, put-last}
use Rattle.scad_bindings.proofs.name_map.NameMap.put.Goals as goal

pub index_mut-requires : goal.index_mut-requires
index_mut-requires g c =
    let told = place-told name_in c.args.name.now c.self.inside.entries.items c.in-Some.place.now
    (c.in-Some.ensures.value ∙ c.self.invariant c.args.name.now) in
    omega (arith, told.0, told.1)

pub invariant_of-self : goal.invariant_of-self
invariant_of-self g c =
    let es = c.self.inside.entries.items in
    let r = c.index_mut.result.now in
    let told = place-told name_in c.args.name.now es c.in-Some.place.now
    (c.in-Some.ensures.value ∙ c.self.invariant c.args.name.now) in
    let written = ap (λ e. slice_set es c.in-Some.place.now (e.0, c.args.value)) c.index_mut.ensures.value
    ∙ ap (λ i. slice_set es i ((get_or es i r).0, c.args.value)) told.0
    ∙ put-there c.args.name c.args.value es r told.1 in
    λ name. c.self.invariant name ∙ place-kept name c.args.name c.args.value es told.1
    ∙ ap (place_in name_in name) (sym written)

pub returns-in-Some-clause-put : goal.returns-in-Some-clause-put
returns-in-Some-clause-put g c =
    let es = c.self.inside.entries.items in
    let r = c.index_mut.result.now in
    let told = place-told name_in c.args.name.now es c.in-Some.place.now
    (c.in-Some.ensures.value ∙ c.self.invariant c.args.name.now) in
    ap (λ e. slice_set es c.in-Some.place.now (e.0, c.args.value)) c.index_mut.ensures.value
    ∙ ap (λ i. slice_set es i ((get_or es i r).0, c.args.value)) told.0
    ∙ put-there c.args.name c.args.value es r told.1
    ∙ ap (λ l. put_in l c.args.name c.args.value) c.self.view_is

pub invariant_of-self-2 : goal.invariant_of-self-2
invariant_of-self-2 g c =
    let es = c.self.inside.entries.items in
    let e : Bor (List ℕ) × g.row.V.Denot = (c.args.name, c.args.value) in
    places-more name_in lent_name es c.push_reserved.new.self.items e c.self.inside.places c.insert.new.self c.args.name
    c.len.result refl (c.len.ensures ∙ c.in_ok-reserve.ensures.len ∙ c.self.inside.entries.ok.0)
    (place-untold name_in c.args.name.now es (c.in_default.ensures.value ∙ c.self.invariant c.args.name.now))
    (c.push_reserved.ensures.items ∙ ap (λ l. l ++ e ∷ []) c.in_ok-reserve.ensures.items)
    c.self.invariant c.in_ok-insert.ensures.updates

pub returns-clause-put : goal.returns-clause-put
returns-clause-put g c =
    let es = c.self.inside.entries.items in
    let e : Bor (List ℕ) × g.row.V.Denot = (c.args.name, c.args.value) in
    let none = place-untold name_in c.args.name.now es
    (c.in_default.ensures.value ∙ c.self.invariant c.args.name.now) in
    c.push_reserved.ensures.items ∙ ap (λ l. l ++ e ∷ []) c.in_ok-reserve.ensures.items
    ∙ put-last c.args.name c.args.value es none ∙ ap (λ l. put_in l c.args.name c.args.value) c.self.view_is
