-- The number of an edge that meets the height is kept.
use Rattle.std.proofs.Common.{refl, ◌++◌, ◌+◌, drop, get_or, filter, Bool, sym, ap, ◌∙◌, List, ℕ}
use Rattle.slice_bundles.specs.Bundles.{edge_at}
use Rattle.slice_bundles.specs.Touching.{touches}
use Rattle.slice_bundles.proofs.Loops.{put_step, pass_step, last_step, filter_yes, filter_no}
use Rattle.slice_slab.proofs.collect.touching_among.Goals as goal
use Rattle.slice_slab.proofs.collect.touching_among.Goals.{then-touches+in_ok-push, else-touches}

pub numbers-preserved : goal.numbers-preserved
numbers-preserved c =
    let ks = c.args.numbers.now in
    let i = c.numbers.k-index in
    let out = c.numbers.out.items in
    let meets : ℕ → Bool = λ k. touches (edge_at c.args.edges.now k) c.args.at.now in
    elim c.if-touches.branch [
      | then-touches+in_ok-push w ↦
          ap (λ v. v.items ++ filter meets (drop (i + 1) ks)) w.out-is
          ∙ ap (λ (ns : List ℕ). ns ++ filter meets (drop (i + 1) ks)) w.in_ok-push.ensures.items
          ∙ put_step out (get_or ks i 0) _ _ _
          (filter_yes meets ks i c.numbers-test.true (sym c.touches.ensures ∙ w.if-touches.true)) c.numbers.invariant
      | else-touches w ↦
          ap (λ v. v.items ++ filter meets (drop (i + 1) ks)) w.out-is
          ∙ pass_step out _ _ _
          (filter_no meets ks i c.numbers-test.true (sym c.touches.ensures ∙ w.if-touches.false)) c.numbers.invariant
    ]

pub returns : goal.returns
returns c = last_step (filter (λ k. touches (edge_at c.args.edges.now k) c.args.at.now)) _ _ c.args.numbers.now
    c.numbers.k-index refl c.numbers-test.false c.numbers.invariant
