-- Those that have begun, without those that ended, are the edges that meet the height.
use Rattle.std.proofs.Common.{◌≡◌, ◌<◌, ◌≤◌, ◌++◌, sym, ap, ◌∙◌, subst, drop, filter, List, ℕ, length, All}
use Rattle.std.proofs.lemmas.List.Elements.{recursion_from_All, All-drop}
use Rattle.std.proofs.lemmas.List.Sorted.{All-permutation}
use Rattle.scad_geom.proofs.Heights.{at_most_chain}
use Rattle.slice_bundles.specs.declared.start.Start.{Start}
use Rattle.slice_bundles.specs.Bundles.{edge_at}
use Rattle.slice_bundles.specs.Touching.{touches, touching}
use Rattle.slice_bundles.specs.Starts.{IsStartOf, numbers_of, begun_at, pending_at}
use Rattle.slice_bundles.specs.CoverHeight.{CoverHeight}
use Rattle.slice_bundles.proofs.Beginning.{rising_drop}
use Rattle.slice_slab.proofs.Standing.{all_more, all_there, live_touches, stands}
use Rattle.slice_slab.proofs.rising_edges.Active.lift.Goals as goal

pub touching_among-requires-clause-there : goal.touching_among-requires-clause-there
touching_among-requires-clause-there c =
    let es = c.args.edges.now in
    let a = c.args.self.now in
    let ss : List Start = drop a.begun a.starts.items in
    let more-is : c.begin.new.live.items ≡ a.live.items ++ numbers_of (begun_at c.args.at.now ss) =
    c.in_ok-self.ensures.begun ∙ ap (λ (xs : List Start). a.live.items
    ++ numbers_of (begun_at c.args.at.now (drop a.begun xs)))
    c.deref.ensures.value in
    subst (All (λ k. k < length es)) (sym c.deref-2.ensures.value)
    (all_more es c.args.at.now ss a.live.items c.begin.new.live.items
    (recursion_from_All (λ k. k < length es) a.live.items c.requires.ready.there)
    (recursion_from_All (IsStartOf es) ss (All-drop (IsStartOf es) a.begun a.starts.items c.requires.ready.starts))
    more-is)

pub returns-clause-live : goal.returns-clause-live
returns-clause-live c =
    let es = c.args.edges.now in
    let at = c.args.at.now in
    let a = c.args.self.now in
    let ss : List Start = drop a.begun a.starts.items in
    let more-is : c.begin.new.live.items ≡ a.live.items ++ numbers_of (begun_at at ss) =
    c.in_ok-self.ensures.begun ∙ ap (λ (xs : List Start). a.live.items ++ numbers_of (begun_at at (drop a.begun xs)))
    c.deref.ensures.value in
    live_touches es at c.requires.at.positive ss a.live.items c.begin.new.live.items c.in_ok-live.live.items
    (recursion_from_All (λ k. k < length es) a.live.items c.requires.ready.there)
    (recursion_from_All (IsStartOf es) ss (All-drop (IsStartOf es) a.begun a.starts.items c.requires.ready.starts))
    (rising_drop a.begun a.starts.items c.requires.ready.rising) c.requires.ready.later more-is
    (c.in_ok-live.ensures ∙ ap (λ (ks : List ℕ). filter (λ k. touches (edge_at es k) at) ks) c.deref-2.ensures.value)

pub returns-clause-stands : goal.returns-clause-stands
returns-clause-stands c =
    let es = c.args.edges.now in
    let at = c.args.at.now in
    let a = c.args.self.now in
    let ss : List Start = drop a.begun a.starts.items in
    let more-is : c.begin.new.live.items ≡ a.live.items ++ numbers_of (begun_at at ss) =
    c.in_ok-self.ensures.begun ∙ ap (λ (xs : List Start). a.live.items ++ numbers_of (begun_at at (drop a.begun xs)))
    c.deref.ensures.value in
    let pending : drop c.in_ok-self.field-0 a.starts.items ≡ pending_at at ss =
    subst (λ (xs : List Start). drop c.in_ok-self.field-0 xs ≡ pending_at at (drop a.begun xs)) c.deref.ensures.value
    c.in_ok-self.ensures.pending in
    let stand = stands es at c.requires.at.positive ss a.live.items c.begin.new.live.items c.in_ok-live.live.items
    (recursion_from_All (λ k. k < length es) a.live.items c.requires.ready.there)
    (recursion_from_All (IsStartOf es) ss (All-drop (IsStartOf es) a.begun a.starts.items c.requires.ready.starts))
    (rising_drop a.begun a.starts.items c.requires.ready.rising) c.requires.ready.later more-is
    (c.in_ok-live.ensures ∙ ap (λ (ks : List ℕ). filter (λ k. touches (edge_at es k) at) ks) c.deref-2.ensures.value) in
    λ h d o. record {
      starts = c.requires.ready.starts;
      rising = c.requires.ready.rising;
      begun = subst (λ (xs : List Start). c.in_ok-self.field-0 ≤ length xs) c.deref.ensures.value
          c.in_ok-self.ensures.within;
      there = All-permutation (λ k. k < length es) (touching 0 es at) c.in_ok-live.live.items
          (returns-clause-live c) (all_there es at);
      later = λ g dg og. subst (CoverHeight es g c.in_ok-live.live.items) (sym pending)
          (stand g dg (at_most_chain at h g c.requires.at.positive d dg o og));
    }
