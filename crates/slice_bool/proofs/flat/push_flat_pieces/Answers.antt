-- Where no flat edge lies on the level, there are no pieces.
use Rattle.std.proofs.Common.{◌≡◌, ◌∙◌, ◌<◌, ℕ, [], sym, subst}
use Rattle.slice_border.specs.Flats.{flats_from}
use Rattle.slice_border.proofs.Keeping.{same_leaf}
use Rattle.slice_bool.proofs.SomeStops.{without_flats, empty_list, some_number}
use Rattle.slice_bool.proofs.flat.push_flat_pieces.Goals as goal

pub push_covered-requires-clause-flats : goal.push_covered-requires-clause-flats
push_covered-requires-clause-flats c =
    subst (λ (n : ℕ). 0 < n) c.args.near.now.flats.ok.0
    (some_number _ (sym c.is_empty.ensures ∙ c.if-is_empty.false))

pub returns-then-is_empty : goal.returns-then-is_empty
returns-then-is_empty c =
    let es = c.args.sweep.now.edges.now in
    let at = c.args.at.now in
    let flats : flats_from 0 es at ≡ [] = sym c.requires.near.flats.are ∙ empty_list c.args.near.now.flats.items
    (sym c.args.near.now.flats.ok.0 ∙ same_leaf _ 0 (sym c.is_empty.ensures ∙ c.if-is_empty.true)) in
    without_flats es c.args.sweep.now.shape.now at c.args.out.now.items flats
