-- No edge has begun.
use Rattle.std.proofs.Common.{sym, subst, drop, arith, List, ℕ, length, ◌<◌, All}
use Rattle.std.proofs.lemmas.List.Elements.{All-nil}
use Rattle.slice_bundles.specs.declared.start.Start.{Start}
use Rattle.slice_bundles.specs.CoverHeight.{CoverHeight}
use Rattle.slice_bundles.proofs.CoverHeight.{none_live}
use Rattle.slice_slab.proofs.rising_edges.Active.new.Goals as goal

pub returns : goal.returns
returns c =
    let es = c.args.edges.now in
    let starts : List Start = c.in_ok-starts.field-0.items in
    λ at. record {
      starts = c.in_ok-starts.ensures.starts;
      rising = c.in_ok-starts.ensures.rising;
      begun = omega arith;
      there = subst (All (λ k. k < length es)) (sym c.new.ensures.items) (All-nil (λ k. k < length es));
      later = λ h d o. subst (λ (ls : List ℕ). CoverHeight es h ls (drop 0 starts)) (sym c.new.ensures.items)
          (none_live es h starts c.in_ok-starts.ensures.all);
    }
