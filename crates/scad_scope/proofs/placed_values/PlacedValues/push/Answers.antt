use Rattle.std.proofs.Common.{arith, sym, ap, ◌∙◌, [], ◌∷◌, ◌++◌, map, vec_len, Some, Option, ℕ}
use Rattle.scad_scope.specs.FrameNames.{listing_of}
use Rattle.scad_scope.specs.Listing.{place_of, name_at}
use Rattle.scad_scope.specs.ListedValues.{place_in_entry}
use Rattle.scad_scope.proofs.ListedValues.{order-push, places-push}
use Rattle.scad_scope.proofs.placed_values.PlacedValues.push.Goals as goal

pub invariant_of-self-2 : goal.invariant_of-self-2
invariant_of-self-2 c =
    let v = c.args.self.now in
    let listing = listing_of v in
    let now = ap (map place_in_entry) (c.push_reserved.ensures.items
    ∙ ap (λ l. l ++ (c.args.place, c.args.value) ∷ []) c.in_ok-reserve.ensures.items) in
    let place_at : ℕ → Option ℕ = λ q. place_of (name_at listing q) listing in
    record {
      places = ap (map place_at) now ∙ places-push listing v.entries.items c.args.place c.args.value v.places c.requires
          ∙ sym (ap (map (λ q. Some q)) now);
      ordered = λ follows.
          let both = c.goes_on-in_order.ensures follows in
          now ∙ order-push v.entries.items c.args.place (vec_len v.entries) (vec_len c.push_reserved.new.self) c.args.value
          (v.ordered both.0) both.1 (omega (arith, c.push_reserved.ensures.len, c.in_ok-reserve.ensures.len));
    }
