-- Sorted rays, those that coincide together, are the bundles.
use Rattle.std.proofs.Common.{sym, ap, ◌∙◌, subst, filter, List, ℕ, IsPermutation, Bool}
use Rattle.std.specs.List.{concat}
use Rattle.std.proofs.lemmas.Result.{IfOk-weaker}
use Rattle.slice_bundles.specs.Bundles.{edge_at, reaches, AreRanked}
use Rattle.slice_sweep.specs.Rays.{bundles_of}
use Rattle.slice_sweep.proofs.RayBundles.{leaving_made}
use Rattle.slice_sweep.proofs.leave.leaving.Goals as goal

pub returns-clause-members : goal.returns-clause-members
returns-clause-members c =
    let s = c.args.step.now in
    let p : ℕ → Bool = λ k. reaches (edge_at s.edges.now k) s.lower.now s.upper.now in
    let made = leaving_made s.edges.now s.lower.now p c.args.numbers.now c.gather.new.rays.items c.sort.new.rays.items
    c.requires.together c.in_ok-gather.ensures.numbers c.in_ok-gather.ensures.rays c.in_ok-sort.ensures.permutation
    c.in_ok-sort.ensures.sorted in
    IfOk-weaker c.group.result _ _
    (λ v e. subst (λ (bs : List (List ℕ)). IsPermutation (filter p c.args.numbers.now) (concat bs))
    (sym (e ∙ ap bundles_of c.deref.ensures.value)) made.0)
    c.group.ensures

pub returns-clause-ranked : goal.returns-clause-ranked
returns-clause-ranked c =
    let s = c.args.step.now in
    let p : ℕ → Bool = λ k. reaches (edge_at s.edges.now k) s.lower.now s.upper.now in
    let made = leaving_made s.edges.now s.lower.now p c.args.numbers.now c.gather.new.rays.items c.sort.new.rays.items
    c.requires.together c.in_ok-gather.ensures.numbers c.in_ok-gather.ensures.rays c.in_ok-sort.ensures.permutation
    c.in_ok-sort.ensures.sorted in
    IfOk-weaker c.group.result _ _
    (λ v e. subst (AreRanked s.edges.now s.lower.now) (sym (e ∙ ap bundles_of c.deref.ensures.value)) made.1)
    c.group.ensures
