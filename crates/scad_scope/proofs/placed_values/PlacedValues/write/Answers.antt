use Rattle.std.proofs.Common.{arith, refl, sym, ap, ◌∙◌, map, Some, Option, ℕ}
use Rattle.std.proofs.lemmas.List.{length-map}
use Rattle.std.proofs.Math.Seq.{map-set_same}
use Rattle.scad_value.specs.View.{datum_of}
use Rattle.scad_scope.specs.FrameNames.{listing_of}
use Rattle.scad_scope.specs.Listing.{place_of, name_at}
use Rattle.scad_scope.specs.ListedValues.{name_placed, place_in_entry}
use Rattle.scad_scope.proofs.Few.{few-set}
use Rattle.scad_scope.proofs.placed_values.PlacedValues.write.Goals as goal

pub invariant_of-self : goal.invariant_of-self
invariant_of-self c =
    let v = c.args.self.now in
    let listing = listing_of v in
    let old = c.index_mut.result.now in
    let same = map-set_same place_in_entry v.entries.items c.args.number (old.0, c.args.value) old
    (ap place_in_entry c.index_mut.ensures.value) in
    let place_at : ℕ → Option ℕ = λ q. place_of (name_at listing q) listing in
    record {
      places = ap (map place_at) same ∙ v.places ∙ sym (ap (map (λ q. Some q)) same);
      ordered = λ in_order. same ∙ v.ordered in_order;
    }

pub returns-clause-named : goal.returns-clause-named
returns-clause-named c =
    λ name more at.
    let v = c.args.self.now in
    let listing = listing_of v in
    let many = length-map v.entries.items (name_placed listing) in
    let old = c.index_mut.result.now in
    few-set (name_placed listing) name (datum_of c.args.value) v.entries.items more c.args.number old
    (old.0, c.args.value) refl at (omega (arith, many, c.requires)) c.index_mut.ensures.value
