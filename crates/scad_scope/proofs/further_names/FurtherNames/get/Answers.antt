use Rattle.std.proofs.Common.{map, ap, ◌∙◌, arith}
use Rattle.scad_scope.specs.Names.{value_of_name}
use Rattle.scad_scope.specs.FrameNames.{named}
use Rattle.scad_bindings.proofs.NamePlaces.{place-told, place-untold}
use Rattle.scad_scope.proofs.Few.{word_of, further-value, further-none}
use Rattle.scad_scope.proofs.further_names.FurtherNames.get.Goals as goal

pub index-requires : goal.index-requires
index-requires c =
    let told = place-told word_of c.args.name.now c.self.inside.entries.items c.in-Some.place.now
    (c.in-Some.ensures.value ∙ c.self.invariant c.args.name.now) in
    omega (arith, told.0, told.1)

pub returns-in-Some : goal.returns-in-Some
returns-in-Some c =
    let es = c.self.inside.entries.items in
    let told = place-told word_of c.args.name.now es c.in-Some.place.now
    (c.in-Some.ensures.value ∙ c.self.invariant c.args.name.now) in
    further-value c.args.name.now es c.in-Some.place.now c.index.result.now told.0 (omega (arith, told.0, told.1))
    c.index.ensures
    ∙ ap (λ l. value_of_name c.args.name.now (map named l)) c.self.view_is

pub returns-in-None : goal.returns-in-None
returns-in-None c =
    let es = c.self.inside.entries.items in
    further-none c.args.name.now es (place-untold word_of c.args.name.now es
    (c.in-None.ensures.value ∙ c.self.invariant c.args.name.now))
    ∙ ap (λ l. value_of_name c.args.name.now (map named l)) c.self.view_is
