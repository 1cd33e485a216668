-- Sorting moves the lower ends alone.
use Rattle.std.proofs.Common.{subst, List, ℕ, IsPermutation}
use Rattle.std.proofs.lemmas.List.Sorted.{All-permutation, IsPermutation-map}
use Rattle.slice_bundles.specs.declared.start.Start.{Start}
use Rattle.slice_bundles.specs.Starts.{IsStartOf, numbers_of}
use Rattle.slice_sweep.specs.declared.lower_end.LowerEnd.{LowerEnd}
use Rattle.slice_sweep.specs.LowerEnds.{start_of, starts_of}
use Rattle.slice_sweep.proofs.lower_ends.lower_ends.Goals as goal

pub returns-clause-all : goal.returns-clause-all
returns-clause-all c =
    let old : List LowerEnd = c.in_ok-out.out.items in
    let new : List LowerEnd = c.sort.new.ends.items in
    subst (λ (ks : List ℕ). IsPermutation ks (numbers_of (starts_of new))) c.in_ok-out.ensures.all
    (IsPermutation-map (λ (s : Start). s.number) (starts_of old) (starts_of new)
    (IsPermutation-map start_of old new c.in_ok-sort.ensures.permutation))

pub returns-clause-starts : goal.returns-clause-starts
returns-clause-starts c =
    let old : List LowerEnd = c.in_ok-out.out.items in
    let new : List LowerEnd = c.sort.new.ends.items in
    All-permutation (IsStartOf c.args.edges.now) (starts_of old) (starts_of new)
    (IsPermutation-map start_of old new c.in_ok-sort.ensures.permutation) c.in_ok-out.ensures.starts
