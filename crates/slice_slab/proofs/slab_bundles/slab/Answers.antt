-- Sorted passages, those that coincide together, are the bundles.
use Rattle.std.proofs.Common.{sym, ap, ◌∙◌, subst, IsPermutation}
use Rattle.std.proofs.lemmas.Result.{IfOk-weaker}
use Rattle.std.proofs.lemmas.List.Sorted.{IsPermutation-refl}
use Rattle.slice_bundles.specs.Bundles.{AreBundles, reaching}
use Rattle.slice_slab.specs.Passages.{bundles_of}
use Rattle.slice_slab.proofs.Bundling.{bundles_made}
use Rattle.slice_slab.proofs.slab_bundles.slab.Goals as goal

pub returns : goal.returns
returns c =
    let es = c.args.edges.now in
    let l = c.args.lower.now in
    let u = c.args.upper.now in
    let made = bundles_made es l u c.in_ok-passages.passages.items c.sort.new.passages.items
    (subst (IsPermutation (reaching 0 es l u)) (sym c.in_ok-passages.ensures.numbers)
    (IsPermutation-refl (reaching 0 es l u)))
    c.in_ok-passages.ensures.passages c.in_ok-sort.ensures.permutation
    c.in_ok-sort.ensures.sorted in
    IfOk-weaker c.group.result _ _
    (λ v e. subst (AreBundles es l u) (sym (e ∙ ap bundles_of c.deref.ensures.value)) made)
    c.group.ensures
