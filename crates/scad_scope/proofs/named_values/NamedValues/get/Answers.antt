use Rattle.std.proofs.Common.{sym, ap, ◌∙◌, arith, map, option_map}
use Rattle.std.proofs.lemmas.List.{length-map}
use Rattle.scad_scope.specs.Names.{place_in, value_of_name}
use Rattle.scad_scope.specs.FrameNames.{named, few_in, or_none, more_in, named_in}
use Rattle.scad_scope.proofs.Few.{few-value, value-unplaced}
use Rattle.scad_scope.proofs.named_values.NamedValues.get.Goals as goal

pub returns-then-place-len : goal.returns-then-place-len
unfolding named_in
returns-then-place-len c =
    few-value named c.args.name.now c.args.self.now.few.items (more_in c.args.self.now) c.place_of-place.result
    c.index.result.now (c.place_of-place.ensures
    ∙ ap (λ l. place_in c.args.name.now (map named l)) c.as_slice.ensures.value) (omega arith) c.index.ensures

pub returns-in-Some : goal.returns-in-Some
unfolding named_in
returns-in-Some c =
    let many = length-map c.args.self.now.few.items named in
    let at = c.place_of-place.ensures ∙ ap (λ l. place_in c.args.name.now (map named l)) c.as_slice.ensures.value in
    c.get.ensures
    ∙ ap (λ m. value_of_name c.args.name.now (map named m)) c.deref.ensures
    ∙ ap (λ m. value_of_name c.args.name.now (or_none (option_map (λ b. map named b.value) m)))
    (sym c.in-Some.is)
    ∙ value-unplaced c.args.name.now (few_in c.args.self.now) (more_in c.args.self.now) (omega (arith, many, at))

pub returns-in-None : goal.returns-in-None
unfolding named_in
returns-in-None c =
    let many = length-map c.args.self.now.few.items named in
    let at = c.place_of-place.ensures ∙ ap (λ l. place_in c.args.name.now (map named l)) c.as_slice.ensures.value in
    ap (λ m. value_of_name c.args.name.now (or_none (option_map (λ b. map named b.value) m)))
    (sym c.in-None.is)
    ∙ value-unplaced c.args.name.now (few_in c.args.self.now) (more_in c.args.self.now) (omega (arith, many, at))
