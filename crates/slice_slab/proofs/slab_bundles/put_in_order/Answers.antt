-- The number of each passage is put behind those before.
use Rattle.std.proofs.Common.{refl, ◌∷◌, ◌++◌, ◌+◌, drop, sym, ap, ◌∙◌, List, ℕ}
use Rattle.std.proofs.lemmas.List.{at_drop_more}
use Rattle.slice_slab.specs.declared.passage.Passage.{Passage}
use Rattle.slice_slab.specs.Passages.{numbers_of}
use Rattle.slice_bundles.proofs.Loops.{put_step, last_step}
use Rattle.slice_slab.proofs.slab_bundles.put_in_order.Goals as goal

pub passages-preserved : goal.passages-preserved
passages-preserved c =
    let ps = c.args.passages.now in
    let i = c.passages.p-index in
    let more : List ℕ = numbers_of (drop (i + 1) ps) in
    ap (λ (ks : List ℕ). ks ++ more) c.in_ok-push.ensures.items
    ∙ put_step c.passages.numbers.items c.p-item.result.number _ _ _
    (at_drop_more numbers_of ps i c.p-item.result c.passages-test.true
    ∙ ap (λ (p : Passage). p.number ∷ more) (sym c.p-item.is)) c.passages.invariant

pub returns : goal.returns
returns c =
    c.in_ok-extend_from_slice.ensures.items
    ∙ ap (λ (ks : List ℕ). ks ++ c.args.others.now)
    (last_step numbers_of _ _ c.args.passages.now c.passages.p-index refl c.passages-test.false c.passages.invariant)
