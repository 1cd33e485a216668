-- One more that begins at the stop or to its left.
use Rattle.std.proofs.Common.{ℕ, List, sym, ◌∙◌, subst, arith}
use Rattle.std.specs.List.{All}
use Rattle.std.proofs.lemmas.List.{get_or_read, drop_more, drop_all}
use Rattle.std.proofs.lemmas.List.Elements.{All-nil}
use Rattle.slice_border.specs.Pieces.{whole_spot, IsLeft}
use Rattle.slice_outlines.specs.declared.flat.Flat.{Flat}
use Rattle.slice_outlines.specs.Along.{BeginsBy, StartsAfter}
use Rattle.slice_outlines.proofs.Parts.{part_none, all_part_more}
use Rattle.slice_outlines.proofs.StrandSearch.{left_true, left_false}
use Rattle.slice_outlines.proofs.stretch.begun_to.Goals as goal

pub flats-init : goal.flats-init
flats-init c = record {
  from = omega arith;
  to = c.requires;
  begun = subst (All (BeginsBy c.args.s.now)) (sym (part_none c.args.flats.now c.args.from))
      (All-nil (BeginsBy c.args.s.now));
}

pub flats-preserved : goal.flats-preserved
flats-preserved c =
    let s = c.args.s.now in
    let fs : List Flat = c.args.flats.now in
    let i : ℕ = c.flats.i in
    let e : Flat = c.index-flats-i.result in
    record {
      from = omega (arith, c.flats.invariant.from);
      to = omega (arith, c.flats-test.true);
      begun = all_part_more (BeginsBy s) fs c.args.from i c.flats.invariant.from c.flats-test.true
          c.flats.invariant.begun
          (λ d. subst (BeginsBy s) (get_or_read fs i e c.flats-test.true c.index-flats-i.is d)
          (left_false s.spot (whole_spot e.left s.spot.at) (sym c.starts_after.ensures ∙ c.if-starts_after.false)));
    }

pub returns-then-starts_after-clause-later : goal.returns-then-starts_after-clause-later
returns-then-starts_after-clause-later c =
    let s = c.args.s.now in
    let e : Flat = c.index-flats-i.result in
    subst (StartsAfter s) (sym (drop_more c.args.flats.now c.flats.i e c.flats-test.true))
    (subst (λ (f : Flat). IsLeft s.spot (whole_spot f.left s.spot.at)) c.index-flats-i.is
    (left_true s.spot (whole_spot e.left s.spot.at) (sym c.starts_after.ensures ∙ c.if-starts_after.true)))

pub returns-clause-later : goal.returns-clause-later
returns-clause-later c =
    subst (StartsAfter c.args.s.now) (sym (drop_all c.flats.i c.args.flats.now c.flats-test.false)) tt
