-- The edges that reach both heights are among those that meet the lower one; with the others they are all of these.
use Rattle.std.proofs.Common.{◌≡◌, sym, ap, ap₂, ◌∙◌, subst, refl, Bool, not, filter, ◌++◌, List, ℕ, All, ◌<◌, length, IsPermutation}
use Rattle.std.proofs.lemmas.Result.{IfOk-weaker}
use Rattle.std.proofs.lemmas.List.Sorted.{All-permutation, IsPermutation-trans, IsPermutation-map, IsPermutation-append_left, IsPermutation-filter_both}
use Rattle.slice_slab.specs.declared.passage.Passage.{Passage}
use Rattle.slice_bundles.specs.Bundles.{edge_at, reaches, reaching, AreBundles}
use Rattle.slice_bundles.specs.Touching.{touching}
use Rattle.slice_slab.specs.Passages.{bundles_of, numbers_of}
use Rattle.slice_bundles.proofs.Times.{filter_permuted}
use Rattle.slice_slab.proofs.Bundling.{bundles_made}
use Rattle.slice_slab.proofs.Standing.{all_there, reaching_among}
use Rattle.slice_slab.proofs.slab_bundles.slab_among.Goals as goal

pub passages_among-requires-clause-there : goal.passages_among-requires-clause-there
passages_among-requires-clause-there c =
    let es = c.args.edges.now in
    subst (All (λ k. k < length es)) (sym c.as_slice.ensures.value)
    (All-permutation (λ k. k < length es) (touching 0 es c.args.lower.now) c.args.numbers.now.items c.requires.numbers
    (all_there es c.args.lower.now))

pub returns-clause-bundles : goal.returns-clause-bundles
returns-clause-bundles c =
    let es = c.args.edges.now in
    let l = c.args.lower.now in
    let u = c.args.upper.now in
    let p : ℕ → Bool = λ k. reaches (edge_at es k) l u in
    let moved : IsPermutation (filter p (touching 0 es l)) (filter p c.args.numbers.now.items) =
    filter_permuted p (touching 0 es l) c.args.numbers.now.items c.requires.numbers in
    let from : IsPermutation (reaching 0 es l u) (filter p c.args.numbers.now.items) =
    subst (λ (ks : List ℕ). IsPermutation ks (filter p c.args.numbers.now.items))
    (reaching_among es l u c.requires.neighbours.lower_divisor c.requires.neighbours.upper_divisor
    c.requires.neighbours.in_order) moved in
    let are : numbers_of c.in_ok-passages.passages.items ≡ filter p c.args.numbers.now.items =
    c.in_ok-passages.ensures.numbers ∙ ap (filter p) c.as_slice.ensures.value in
    let made = bundles_made es l u c.in_ok-passages.passages.items c.sort.new.passages.items
    (subst (IsPermutation (reaching 0 es l u)) (sym are) from)
    c.in_ok-passages.ensures.passages c.in_ok-sort.ensures.permutation c.in_ok-sort.ensures.sorted in
    IfOk-weaker c.group.result _ _
    (λ v e. subst (AreBundles es l u) (sym (e ∙ ap bundles_of c.deref-3.ensures.value)) made)
    c.group.ensures

pub returns-clause-numbers : goal.returns-clause-numbers
returns-clause-numbers c =
    let es = c.args.edges.now in
    let old : List ℕ = c.args.numbers.now.items in
    let p : ℕ → Bool = λ k. reaches (edge_at es k) c.args.lower.now c.args.upper.now in
    let q : ℕ → Bool = λ k. not (p k) in
    let left : List ℕ = filter q old in
    let sorted : List Passage = c.sort.new.passages.items in
    let are : numbers_of c.in_ok-passages.passages.items ≡ filter p old =
    c.in_ok-passages.ensures.numbers ∙ ap (filter p) c.as_slice.ensures.value in
    let moved : IsPermutation (filter p old) (numbers_of sorted) =
    subst (λ (ks : List ℕ). IsPermutation ks (numbers_of sorted)) are
    (IsPermutation-map (λ (r : Passage). r.number) c.in_ok-passages.passages.items sorted
    c.in_ok-sort.ensures.permutation) in
    let all : IsPermutation old (numbers_of sorted ++ left) =
    IsPermutation-trans old (filter p old ++ left) (numbers_of sorted ++ left)
    (IsPermutation-filter_both p q (λ k. refl) old)
    (IsPermutation-append_left left (filter p old) (numbers_of sorted) moved) in
    let others : c.passages_among.new.others.items ≡ left = c.in_ok-passages.ensures.others
    ∙ ap₂ (λ (xs ks : List ℕ). xs ++ filter q ks) c.new-others.ensures.items c.as_slice.ensures.value in
    let news : c.put_in_order.new.numbers.items ≡ numbers_of sorted ++ left = c.in_ok-put_in_order.ensures
    ∙ ap₂ (λ (rs : List Passage) (ks : List ℕ). numbers_of rs ++ ks) c.deref.ensures.value
    (c.deref-2.ensures.value ∙ others) in
    IfOk-weaker c.group.result _ _ (λ v e. subst (IsPermutation old) (sym news) all) c.group.ensures
