-- A name that is there is set anew, and any other one goes behind those before it; where there is no memory all stays.
use Rattle.std.proofs.Common.{[], ◌∷◌, ◌++◌, map, refl, sym, ap, ap₂, ◌∙◌, arith}
use Rattle.std.proofs.lemmas.Result.{err_from_is_err_and}
use Rattle.scad_value.specs.View.{datum_of}
use Rattle.scad_scope.specs.Names.{with_name}
use Rattle.scad_scope.specs.FrameNames.{named}
use Rattle.scad_bindings.specs.NamePlaces.{place_in}
use Rattle.scad_bindings.proofs.NamePlaces.{word_in, place-told, place-untold, place-set, places-more}
use Rattle.scad_scope.proofs.Few.{word_of, further-set, further-push}
use Rattle.scad_scope.proofs.further_names.FurtherNames.set.Goals as goal

pub index_mut-requires : goal.index_mut-requires
index_mut-requires c =
    let told = place-told word_of c.args.name.now c.self.inside.entries.items c.in-Some.place.now
    (c.in-Some.ensures.value ∙ c.self.invariant c.args.name.now) in
    omega (arith, told.0, told.1)

pub invariant_of-self : goal.invariant_of-self
invariant_of-self c = λ name. c.self.invariant name
    ∙ place-set word_of name c.self.inside.entries.items c.in-Some.place.now c.index_mut.result.now
    (c.index_mut.result.now.0, c.args.value) c.index_mut.ensures.value refl

pub returns-in-Some-clause-named : goal.returns-in-Some-clause-named
returns-in-Some-clause-named c =
    let es = c.self.inside.entries.items in
    let told = place-told word_of c.args.name.now es c.in-Some.place.now
    (c.in-Some.ensures.value ∙ c.self.invariant c.args.name.now) in
    further-set c.args.name.now c.args.value es c.in-Some.place.now c.index_mut.result.now
    told.0 (omega (arith, told.0, told.1)) c.index_mut.ensures.value
    ∙ ap (λ l. with_name c.args.name.now (datum_of c.args.value) (map named l)) c.self.view_is

pub invariant_of-self-2 : goal.invariant_of-self-2
invariant_of-self-2 c =
    let es = c.self.inside.entries.items in
    places-more word_of word_in es c.push_reserved.new.self.items (c.args.name.now, c.args.value) c.self.inside.places
    c.insert.new.self c.in_ok-key.key c.len.result c.in_ok-key.ensures.items
    (c.len.ensures ∙ c.in_ok-reserve.ensures.len ∙ c.self.inside.entries.ok.0)
    (place-untold word_of c.args.name.now es (c.in_default.ensures.value ∙ c.self.invariant c.args.name.now))
    (c.push_reserved.ensures.items
    ∙ ap₂ (λ l w. l ++ (w, c.args.value) ∷ []) c.in_ok-reserve.ensures.items c.in_ok-word.ensures)
    c.self.invariant c.in_ok-insert.ensures.updates

pub returns-clause-named : goal.returns-clause-named
returns-clause-named c =
    let es = c.self.inside.entries.items in
    ap (map named) (c.push_reserved.ensures.items
    ∙ ap₂ (λ l w. l ++ (w, c.args.value) ∷ []) c.in_ok-reserve.ensures.items c.in_ok-word.ensures)
    ∙ further-push c.args.name.now c.args.value es (place-untold word_of c.args.name.now es
    (c.in_default.ensures.value ∙ c.self.invariant c.args.name.now))
    ∙ ap (λ l. with_name c.args.name.now (datum_of c.args.value) (map named l)) c.self.view_is

pub invariant_of-self-in_err-reserve : goal.invariant_of-self-in_err-reserve
invariant_of-self-in_err-reserve c =
    λ name. c.self.invariant name ∙ ap (place_in word_of name) (sym c.in_err-reserve.ensures.items)

pub returns-in_err-reserve-clause-refused : goal.returns-in_err-reserve-clause-refused
returns-in_err-reserve-clause-refused c =
    let p = err_from_is_err_and c.from_residual.result c.from_residual.ensures.1 in
    rw p.1 (c.in_err-reserve.ensures.items ∙ c.self.view_is)

pub invariant_of-self-in_err-key : goal.invariant_of-self-in_err-key
invariant_of-self-in_err-key c =
    λ name. c.self.invariant name ∙ ap (place_in word_of name) (sym c.in_ok-reserve.ensures.items)

pub returns-in_err-key-clause-refused : goal.returns-in_err-key-clause-refused
returns-in_err-key-clause-refused c =
    let p = err_from_is_err_and c.from_residual-in_err-key.result c.from_residual-in_err-key.ensures.1 in
    rw p.1 (c.in_ok-reserve.ensures.items ∙ c.self.view_is)

pub invariant_of-self-in_err-word : goal.invariant_of-self-in_err-word
invariant_of-self-in_err-word c =
    λ name. c.self.invariant name ∙ ap (place_in word_of name) (sym c.in_ok-reserve.ensures.items)

pub returns-in_err-word-clause-refused : goal.returns-in_err-word-clause-refused
returns-in_err-word-clause-refused c =
    let p = err_from_is_err_and c.from_residual-in_err-word.result c.from_residual-in_err-word.ensures.1 in
    rw p.1 (c.in_ok-reserve.ensures.items ∙ c.self.view_is)

pub returns-in_err-insert-clause-refused : goal.returns-in_err-insert-clause-refused
returns-in_err-insert-clause-refused c =
    let p = err_from_is_err_and c.from_residual-in_err-insert.result c.from_residual-in_err-insert.ensures.1 in
    rw p.1 (c.in_ok-reserve.ensures.items ∙ c.self.view_is)
