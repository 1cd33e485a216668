-- Each bundle's edges leave, from left to right.
use Rattle.std.proofs.Common.{◌+◌, ◌<◌, ℕ, List, ◌++◌, length, drop, sym, ap, ◌∙◌, subst}
use Rattle.std.specs.List.{All, concat}
use Rattle.std.proofs.lemmas.List.{at_drop_more, drop_all}
use Rattle.slice_border.specs.Keeping.{Tells, AreSmall}
use Rattle.slice_border.proofs.BundleValues.{there_at}
use Rattle.slice_bool.proofs.LeftValues.{is_small}
use Rattle.slice_bool.proofs.slab.take_all.Goals as goal

pub take-requires-clause-there : goal.take-requires-clause-there
take-requires-clause-there c =
    let es = c.args.sweep.now.edges.now in
    let bs : List (List ℕ) = c.args.bundles.now in
    subst (All (λ k. k < length es)) (sym (c.as_slice.ensures ∙ c.index-bundles-i.is))
    (there_at es bs c.bundles.i c.index-bundles-i.result c.bundles-test.true c.requires.members)

pub take-requires-clause-small : goal.take-requires-clause-small
take-requires-clause-small c =
    let es = c.args.sweep.now.edges.now in
    let bs : List (List ℕ) = c.args.bundles.now in
    subst (λ (ks : List ℕ). AreSmall es ks c.bundles.tally) (sym (c.as_slice.ensures ∙ c.index-bundles-i.is))
    (is_small es c.args.sweep.now.shape.now bs c.bundles.i c.bundles.i c.index-bundles-i.result c.bundles.tally
    c.bundles-test.true c.requires.members c.args.sweep.now.few c.bundles.invariant)

pub bundles-preserved : goal.bundles-preserved
bundles-preserved c =
    let es = c.args.sweep.now.edges.now in
    let shape = c.args.sweep.now.shape.now in
    let bs : List (List ℕ) = c.args.bundles.now in
    let i : ℕ = c.bundles.i in
    let rest : List ℕ = concat (drop (i + 1) bs) in
    c.take.ensures shape rest (subst (λ (ks : List ℕ). Tells es shape ks c.bundles.tally)
    (at_drop_more concat bs i c.index-bundles-i.result c.bundles-test.true
    ∙ ap (λ (b : List ℕ). b ++ rest) (sym (c.as_slice.ensures ∙ c.index-bundles-i.is)))
    c.bundles.invariant)

pub returns : goal.returns
returns c =
    subst (λ (bs : List (List ℕ)). Tells c.args.sweep.now.edges.now c.args.sweep.now.shape.now (concat bs) c.bundles.tally)
    (drop_all c.bundles.i c.args.bundles.now c.bundles-test.false) c.bundles.invariant
