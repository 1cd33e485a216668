use Rattle.std.proofs.Common.{arith, map, vec_len, ◌∙◌}
use Rattle.scad_scope.specs.ListedValues.{place_in_entry}
use Rattle.scad_scope.proofs.ListedValues.{number-there, number-past}
use Rattle.scad_scope.proofs.placed_values.PlacedValues.number.Goals as goal

pub returns-then-place-count : goal.returns-then-place-count
returns-then-place-count c =
    let v = c.args.self.now in
    number-there c.args.place (vec_len v.entries) (map place_in_entry v.entries.items) (v.ordered c.if-self.true)
    (omega arith)

pub returns-else-place-count : goal.returns-else-place-count
returns-else-place-count c =
    let v = c.args.self.now in
    c.len-count.ensures ∙ number-past c.args.place (vec_len v.entries) (map place_in_entry v.entries.items) (v.ordered c.if-self.true)
    (omega arith)
