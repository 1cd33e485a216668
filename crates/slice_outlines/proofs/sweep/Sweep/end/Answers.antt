-- The places of the last level are passed.
use Rattle.std.proofs.Common.{◌≡◌, ◌<◌, ℕ, List, [], length, refl, sym, ap, subst, ◌∙◌, arith}
use Rattle.slice_outlines.specs.declared.height.Height.{Height}
use Rattle.slice_outlines.specs.declared.mark.Mark.{Mark}
use Rattle.slice_outlines.proofs.Climbing.{swept_members}
use Rattle.slice_outlines.proofs.SweepEnd.{all_from, marks_all_pass, below_order, all_merged}
use Rattle.slice_outlines.proofs.sweep.Sweep.end.Goals as goal

pub clear-requires-clause-members : goal.clear-requires-clause-members
clear-requires-clause-members c =
    let w = c.requires.swept in
    swept_members c.args.edges.now w.shape w.levels c.args.top.now [] c.args.self w.swept

pub pass_places-requires-clause-below_order : goal.pass_places-requires-clause-below_order
pass_places-requires-clause-below_order c =
    let w = c.requires.swept in
    let marks = c.deref.ensures.value ∙ ap (λ v. v.items) c.replace-below.ensures.value in
    let h : Height = record {
      edges = c.args.edges;
      at = c.args.top;
      front = record { ref_ptr = c.args.top.ref_ptr; now = c.in_ok-front.front };
      below = c.deref.result;
      within = c.requires.within;
      few = c.requires.few;
      at_within = c.requires.top;
    } in
    below_order h w.shape w.levels c.args.self w.swept w.are_levels marks c.in_ok-front.ensures.none

pub pass_places-requires-clause-below_pass : goal.pass_places-requires-clause-below_pass
pass_places-requires-clause-below_pass c =
    let w = c.requires.swept in
    let marks = c.deref.ensures.value ∙ ap (λ v. v.items) c.replace-below.ensures.value in
    marks_all_pass c.args.edges.now w.shape w.levels c.args.top.now [] c.args.self w.swept w.are_levels c.deref.result.now
    marks

pub clear-requires-clause-few : goal.clear-requires-clause-few
clear-requires-clause-few c = c.requires.few

pub invariant_of-height : goal.invariant_of-height
invariant_of-height c =
    record { within = c.requires.within; few = c.requires.few; at_within = c.requires.top }

-- no mark is left
no_mark : (ms : List Mark) → ms ≡ [] → (k : ℕ) → k < length ms → ⊥
no_mark ms e k h = let f : k < 0 = subst (λ (l : List Mark). k < length l) e h in omega arith

pub pass_places-requires-clause-above_pass : goal.pass_places-requires-clause-above_pass
pass_places-requires-clause-above_pass c = λ k d h.
    absurd (no_mark c.replace-below.new.dest.items
    (ap (λ v. v.items) c.replace-below.ensures.after ∙ c.new.ensures.items) k h)

pub returns : goal.returns
returns c = λ w.
    let s = c.args.self in
    let marks = c.deref.ensures.value ∙ ap (λ v. v.items) c.replace-below.ensures.value in
    all_merged _ w.shape w.levels s w.swept w.are_levels marks c.in_ok-front.ensures.none
    (record { marks = c.replace-below.new.dest; cursors = c.clear.new.self; given = s.kept.given })
    c.pass_places.new.kept
    _ _ (c.len.ensures ∙ sym c.deref.ensures.len)
    (all_from c.deref-2.result.now s.flats.items s.passed c.deref-2.ensures.value) (ap
    (λ v. v.items) c.replace-below.ensures.after ∙ c.new.ensures.items)
    refl (c.clear.ensures w.shape (w.swept.cursors)) c.in_ok-pass_places.ensures.passed
