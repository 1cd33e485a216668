use Rattle.std.proofs.Common.{arith, sym, ◌∙◌}
use Rattle.std.proofs.lemmas.List.{length-map}
use Rattle.scad_scope.specs.FrameNames.{listing_of}
use Rattle.scad_scope.specs.ListedValues.{name_placed}
use Rattle.scad_scope.proofs.ListedValues.{place-name, place-number, place-unlisted}
use Rattle.scad_scope.proofs.placed_values.PlacedValues.find.Goals as goal

pub returns-then-number-len : goal.returns-then-number-len
returns-then-number-len c =
    let v = c.args.self.now in
    let listing = listing_of v in
    let at = sym c.place.ensures ∙ c.in-Some.is in
    let many = length-map v.entries.items (name_placed listing) in (
      c.number-number.ensures ∙ place-number c.args.name.now listing c.in-Some.place v.entries.items v.places at,
      omega (arith, many),
    )

pub returns-else-number-len : goal.returns-else-number-len
returns-else-number-len c =
    let v = c.args.self.now in
    let listing = listing_of v in
    let at = sym c.place.ensures ∙ c.in-Some.is in
    let many = length-map v.entries.items (name_placed listing) in
    let number = place-number c.args.name.now listing c.in-Some.place v.entries.items v.places at in
    record {
      listed = at;
      named = sym (place-name c.args.name.now listing c.in-Some.place at);
      absent = omega (arith, many, number, c.number-number.ensures);
    }

pub returns-in-None : goal.returns-in-None
returns-in-None c =
    let v = c.args.self.now in
    let at = sym c.place.ensures ∙ c.in-None.is in
    (at, place-unlisted c.args.name.now (listing_of v) v.entries.items v.places at)
