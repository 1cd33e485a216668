-- Putting the numbers in order changes nothing of which they are.
use Rattle.std.proofs.Common.{◌<◌, length}
use Rattle.std.proofs.lemmas.List.Sorted.{All-permutation, IsPermutation-trans}
use Rattle.slice_bundles.specs.Touching.{touching}
use Rattle.slice_slab.proofs.Standing.{cover_permuted}
use Rattle.slice_slab.proofs.rising_edges.Active.advance.Goals as goal

pub returns-clause-live : goal.returns-clause-live
returns-clause-live c =
    IsPermutation-trans (touching 0 c.args.edges.now c.args.lower.now) c.lift.new.self.live.items
    c.slab_among.new.numbers.items c.in_ok-lift.ensures.live c.in_ok-bundles.ensures.numbers

pub returns-clause-stands : goal.returns-clause-stands
returns-clause-stands c =
    let es = c.args.edges.now in
    let live = c.lift.new.self.live.items in
    let news = c.slab_among.new.numbers.items in
    let same = c.in_ok-bundles.ensures.numbers in
    λ h d o.
    let r = c.in_ok-lift.ensures.stands h d o in
    record {
      starts = r.starts;
      rising = r.rising;
      begun = r.begun;
      there = All-permutation (λ k. k < length es) live news same r.there;
      later = λ g dg og. cover_permuted es g live news _ same (r.later g dg og);
    }
