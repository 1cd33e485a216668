-- The ends that tie with one stand side by side, so the first two places tell whether it is one.
use Rattle.std.proofs.Common.{◌<◌, length, sym, ap, ◌∙◌}
use Rattle.std.proofs.lemmas.List.{get_or_default}
use Rattle.slice_snap.specs.declared.end.End.{End}
use Rattle.slice_snap.specs.EndOrder.{end_cmp, ties}
use Rattle.slice_snap.proofs.Ties.{IsBlock, holds_there, holds_inside, one_here, none_here, more_here, tied_block}
use Rattle.slice_snap.proofs.EndOrder.{end_total}
use Rattle.slice_snap.proofs.alone.alone.Goals as goal
use Rattle.slice_snap.proofs.alone.alone.Goals.{else-ties_at-via-then-ties_at+else-not-ties_at, else-ties_at-via-else-ties_at}

pub bounds-ends-first : goal.bounds-ends-first
bounds-ends-first c = holds_inside (ties c.args.at.now) c.args.ends.now c.first_from-first.result
    (sym c.ties_at.ensures ∙ c.if-ties_at.true)

pub bounds-ends-first-then-not-ties_at : goal.bounds-ends-first-then-not-ties_at
bounds-ends-first-then-not-ties_at c d = holds_inside (ties c.args.at.now) c.args.ends.now c.first_from-first.result
    (sym c.ties_at.ensures ∙ c.if-ties_at.true)

pub returns-then-not-ties_at-clause-some : goal.returns-then-not-ties_at-clause-some
returns-then-not-ties_at-clause-some c =
    let at : End = c.args.at.now in
    let ends = c.args.ends.now in
    let k = c.first_from-first.result in
    let here = sym c.ties_at.ensures ∙ c.if-ties_at.true in
    let next = sym c.ties_at-then-ties_at.ensures ∙ c.if-not-ties_at.true in
    let there : k < length ends = holds_inside (ties at) ends k here in
    let block : IsBlock (ties at) ends k = tied_block end_cmp end_total at ends k at c.requires c.first_from-first.ensures.point in
    record {
      one = one_here (ties at) ends k block here next;
      k = k;
      there = there;
      is = λ d. ap (λ (e : End). e.place) (get_or_default ends k d c.index-ends-first.result there);
      tied = λ d. sym (holds_there (ties at) ends k d there) ∙ here;
    }

pub returns-else-ties_at-clause-none : goal.returns-else-ties_at-clause-none
returns-else-ties_at-clause-none c =
    let at : End = c.args.at.now in
    let ends = c.args.ends.now in
    let k = c.first_from-first.result in
    let block : IsBlock (ties at) ends k = tied_block end_cmp end_total at ends k at c.requires c.first_from-first.ensures.point in
    elim c.else-ties_at.branch [
      | else-ties_at-via-then-ties_at+else-not-ties_at w ↦
          more_here (ties at) ends k block (sym c.ties_at.ensures ∙ w.if-ties_at.true)
          (sym w.ties_at-then-ties_at.ensures ∙ w.if-not-ties_at.false)
      | else-ties_at-via-else-ties_at w ↦ none_here (ties at) ends k block
          (sym c.ties_at.ensures ∙ w.if-ties_at.false)
    ]
