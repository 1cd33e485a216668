-- Sorting moves the starts alone.
use Rattle.std.proofs.Common.{subst, List, ℕ, IsPermutation}
use Rattle.std.proofs.lemmas.List.Sorted.{All-permutation, IsPermutation-map}
use Rattle.slice_bundles.specs.declared.start.Start.{Start}
use Rattle.slice_bundles.specs.Starts.{IsStartOf, numbers_of}
use Rattle.slice_slab.proofs.lower_ends.starts.Goals as goal

pub returns-clause-all : goal.returns-clause-all
returns-clause-all c =
    let old : List Start = c.in_ok-out.out.items in
    let new : List Start = c.sort.new.starts.items in
    subst (λ (ks : List ℕ). IsPermutation ks (numbers_of new)) c.in_ok-out.ensures.all
    (IsPermutation-map (λ (s : Start). s.number) old new c.in_ok-sort.ensures.permutation)

pub returns-clause-starts : goal.returns-clause-starts
returns-clause-starts c =
    All-permutation (IsStartOf c.args.edges.now) c.in_ok-out.out.items c.sort.new.starts.items
    c.in_ok-sort.ensures.permutation c.in_ok-out.ensures.starts
