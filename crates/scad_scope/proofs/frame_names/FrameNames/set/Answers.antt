-- A name that has a place is set there, and any other one by itself.
use Rattle.std.proofs.Common.{sym, ap, ◌∙◌}
use Rattle.std.proofs.lemmas.Result.{on_ok_weaker}
use Rattle.scad_value.specs.View.{datum_of}
use Rattle.scad_scope.specs.FrameNames.{listing_of, named_in, placed_in}
use Rattle.scad_scope.specs.Listing.{name_at}
use Rattle.scad_scope.specs.ListedValues.{first_place, or_unlisted}
use Rattle.scad_scope.specs.View.{names_in}
use Rattle.scad_scope.proofs.HeldNames.{placed-push, first-more, first-other}
use Rattle.scad_scope.proofs.frame_names.FrameNames.set.Goals as goal

pub returns-in-Set-clause-named : goal.returns-in-Set-clause-named
unfolding names_in
returns-in-Set-clause-named c =
    c.write.ensures.named c.args.name.now (named_in c.args.self.now.named) c.in-Set.ensures.0

pub returns-then-is_empty-clause-named : goal.returns-then-is_empty-clause-named
unfolding names_in
returns-then-is_empty-clause-named c =
    let before = c.args.self.now in
    on_ok_weaker c.push.result (λ put. placed-push c.args.name.now (name_at (listing_of before.placed) c.in-Free.place)
    (datum_of c.args.value) (placed_in before.placed) (named_in before.named) (placed_in c.push.new.self) put
    c.in-Free.ensures.named c.in-Free.ensures.absent (sym c.is_empty.ensures ∙ c.if-is_empty.true)) c.push.ensures.put

pub add-requires-clause-other : goal.add-requires-clause-other
add-requires-clause-other c =
    let before = c.args.self.now in
    first-more (listing_of before.placed) c.args.name.now (datum_of c.args.value) (named_in before.named) before.other
    (sym c.is_empty.ensures ∙ c.if-is_empty.false)

pub add-requires-clause-absent : goal.add-requires-clause-absent
add-requires-clause-absent c = c.in-Free.ensures.absent

pub add-requires-in-Unlisted-clause-other : goal.add-requires-in-Unlisted-clause-other
add-requires-in-Unlisted-clause-other c =
    let before = c.args.self.now in
    first-other (listing_of before.placed) c.args.name.now (datum_of c.args.value) (named_in before.named) before.other
    c.in-Unlisted.ensures.0

pub add-requires-in-Unlisted-clause-absent : goal.add-requires-in-Unlisted-clause-absent
add-requires-in-Unlisted-clause-absent c = c.in-Unlisted.ensures.1

pub invariant_of-self : goal.invariant_of-self
invariant_of-self c = record {
  other = ap (λ o. first_place (or_unlisted o) (named_in c.args.self.now.named)) c.write.ensures.names
      ∙ c.args.self.now.other;
}

pub invariant_of-self-then-is_empty : goal.invariant_of-self-then-is_empty
invariant_of-self-then-is_empty c = record {
  other = ap (λ o. first_place (or_unlisted o) (named_in c.args.self.now.named)) c.push.ensures.names
      ∙ c.args.self.now.other;
}
