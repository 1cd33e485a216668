use Rattle.std.proofs.Common.{get_or, Some, ap, ◌∙◌, arith}
use Rattle.scad_bindings.specs.NamePlaces.{value_in}
use Rattle.scad_bindings.proofs.NamePlaces.{name_in, place-told, place-untold, value-there, value-none}
use Rattle.scad_bindings.proofs.name_map.NameMap.get.Goals as goal

pub index-requires : goal.index-requires
index-requires g c =
    let told = place-told name_in c.args.name.now c.self.inside.entries.items c.in-Some.place.now
    (c.in-Some.ensures.value ∙ c.self.invariant c.args.name.now) in
    omega (arith, told.0, told.1)

pub returns-in-Some : goal.returns-in-Some
returns-in-Some g c =
    let es = c.self.inside.entries.items in
    let r = c.index.result.now in
    let told = place-told name_in c.args.name.now es c.in-Some.place.now
    (c.in-Some.ensures.value ∙ c.self.invariant c.args.name.now) in
    ap (λ e. Some e.1) c.index.ensures ∙ ap (λ i. Some (get_or es i r).1) told.0
    ∙ value-there c.args.name.now es r told.1 ∙ ap (value_in c.args.name.now) c.self.view_is

pub returns-in-None : goal.returns-in-None
returns-in-None g c =
    let es = c.self.inside.entries.items in
    value-none c.args.name.now es (place-untold name_in c.args.name.now es
    (c.in-None.ensures.value ∙ c.self.invariant c.args.name.now))
    ∙ ap (value_in c.args.name.now) c.self.view_is
