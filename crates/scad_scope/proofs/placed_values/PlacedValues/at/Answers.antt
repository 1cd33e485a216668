use Rattle.std.proofs.Common.{arith, [], ap, ◌∙◌}
use Rattle.std.proofs.lemmas.List.{append-nil, length-map}
use Rattle.scad_scope.specs.FrameNames.{listing_of, placed_in}
use Rattle.scad_scope.specs.Names.{value_of_name}
use Rattle.scad_scope.specs.ListedValues.{name_placed}
use Rattle.scad_scope.proofs.Few.{few-value, value-unplaced}
use Rattle.scad_scope.proofs.ListedValues.{place-number}
use Rattle.scad_scope.proofs.placed_values.PlacedValues.at.Goals as goal

pub returns-then-number-len : goal.returns-then-number-len
returns-then-number-len c =
    λ name is.
    let v = c.args.self.now in
    let listing = listing_of v in
    few-value (name_placed listing) name v.entries.items [] c.number-number.result c.index.result.now
    (c.number-number.ensures ∙ place-number name listing c.args.place v.entries.items v.places is) (omega arith)
    c.index.ensures
    ∙ ap (value_of_name name) (append-nil (placed_in v))

pub returns-else-number-len : goal.returns-else-number-len
returns-else-number-len c =
    λ name is.
    let v = c.args.self.now in
    let listing = listing_of v in
    let many = length-map v.entries.items (name_placed listing) in
    let number = place-number name listing c.args.place v.entries.items v.places is in
    value-unplaced name (placed_in v) [] (omega (arith, many, number, c.number-number.ensures))
    ∙ ap (value_of_name name) (append-nil (placed_in v))
