-- A name that isn't listed goes behind those before it; where there is no memory all stays.
use Rattle.std.proofs.Common.{[], ◌∷◌, ◌++◌, is_some, sym, ap, ◌∙◌}
use Rattle.std.proofs.lemmas.Result.{err_from_is_err_and}
use Rattle.scad_scope.specs.Listing.{with_listed}
use Rattle.scad_bindings.specs.NamePlaces.{before, place_in}
use Rattle.scad_bindings.proofs.NamePlaces.{word_in, place-unfound, places-more}
use Rattle.scad_scope.proofs.Listing.{words, word-there, word-last}
use Rattle.scad_scope.proofs.names.Names.add.Goals as goal

pub returns-then-contains_key-clause-listed : goal.returns-then-contains_key-clause-listed
returns-then-contains_key-clause-listed c =
    sym c.self.view_is
    ∙ word-there c.args.name.now c.self.inside.words.items (sym c.if-contains_key.true ∙ c.contains_key.ensures
    ∙ ap is_some (c.self.invariant c.args.name.now))
    ∙ ap (with_listed c.args.name.now) c.self.view_is

pub invariant_of-self-2 : goal.invariant_of-self-2
invariant_of-self-2 c =
    let ws = c.self.inside.words.items in
    places-more word_in word_in ws c.push_reserved.new.self.items c.in_ok-word.word c.self.inside.places
    c.insert.new.self c.in_ok-key.key c.len.result (c.in_ok-key.ensures.items ∙ sym c.in_ok-word.ensures.items)
    (c.len.ensures ∙ c.in_ok-reserve.ensures.len ∙ c.self.inside.words.ok.0)
    (ap (λ n. before word_in n ws) c.in_ok-word.ensures.items
    ∙ place-unfound word_in c.args.name.now ws (sym c.if-contains_key.false ∙ c.contains_key.ensures
    ∙ ap is_some (c.self.invariant c.args.name.now)))
    (c.push_reserved.ensures.items ∙ ap (λ l. l ++ c.in_ok-word.word ∷ []) c.in_ok-reserve.ensures.items)
    c.self.invariant c.in_ok-insert.ensures.updates

pub returns-clause-listed : goal.returns-clause-listed
returns-clause-listed c =
    let ws = c.self.inside.words.items in
    ap words (c.push_reserved.ensures.items ∙ ap (λ l. l ++ c.in_ok-word.word ∷ []) c.in_ok-reserve.ensures.items)
    ∙ word-last c.in_ok-word.word ws (sym c.if-contains_key.false ∙ c.contains_key.ensures
    ∙ ap is_some (c.self.invariant c.args.name.now)
    ∙ ap (λ n. is_some (place_in word_in n ws)) (sym c.in_ok-word.ensures.items))
    ∙ ap (λ n. with_listed n (words ws)) c.in_ok-word.ensures.items
    ∙ ap (with_listed c.args.name.now) c.self.view_is

pub invariant_of-self : goal.invariant_of-self
invariant_of-self c =
    λ name. c.self.invariant name ∙ ap (place_in word_in name) (sym c.in_err-reserve.ensures.items)

pub returns-in_err-reserve-clause-refused : goal.returns-in_err-reserve-clause-refused
returns-in_err-reserve-clause-refused c =
    let p = err_from_is_err_and c.from_residual.result c.from_residual.ensures.1 in
    rw p.1 (ap words c.in_err-reserve.ensures.items ∙ c.self.view_is)

pub invariant_of-self-in_err-word : goal.invariant_of-self-in_err-word
invariant_of-self-in_err-word c =
    λ name. c.self.invariant name ∙ ap (place_in word_in name) (sym c.in_ok-reserve.ensures.items)

pub returns-in_err-word-clause-refused : goal.returns-in_err-word-clause-refused
returns-in_err-word-clause-refused c =
    let p = err_from_is_err_and c.from_residual-in_err-word.result c.from_residual-in_err-word.ensures.1 in
    rw p.1 (ap words c.in_ok-reserve.ensures.items ∙ c.self.view_is)

pub invariant_of-self-in_err-key : goal.invariant_of-self-in_err-key
invariant_of-self-in_err-key c =
    λ name. c.self.invariant name ∙ ap (place_in word_in name) (sym c.in_ok-reserve.ensures.items)

pub returns-in_err-key-clause-refused : goal.returns-in_err-key-clause-refused
returns-in_err-key-clause-refused c =
    let p = err_from_is_err_and c.from_residual-in_err-key.result c.from_residual-in_err-key.ensures.1 in
    rw p.1 (ap words c.in_ok-reserve.ensures.items ∙ c.self.view_is)

pub returns-in_err-insert-clause-refused : goal.returns-in_err-insert-clause-refused
returns-in_err-insert-clause-refused c =
    let p = err_from_is_err_and c.from_residual-in_err-insert.result c.from_residual-in_err-insert.ensures.1 in
    rw p.1 (ap words c.in_ok-reserve.ensures.items ∙ c.self.view_is)
