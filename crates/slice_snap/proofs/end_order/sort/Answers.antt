-- The comparison is that of the strict order.
use Rattle.std.proofs.Common.{rules}
use Rattle.std.specs.Ordering.{is_lt}
use Rattle.std.proofs.lemmas.List.Sorted.{ranks_by, answers_always}
use Rattle.slice_snap.specs.declared.end.End.{End}
use Rattle.slice_snap.specs.EndOrder.{end_cmp}
use Rattle.slice_snap.proofs.EndOrder.{end_total}
use Rattle.slice_snap.proofs.end_order.sort.Goals as goal

pub returns-clause-sorted : goal.returns-clause-sorted
returns-clause-sorted c =
    c.sort_unstable_by.ensures.sorted (λ (e f : End). is_lt (end_cmp e f)) (ranks_by end_total (λ (e : End). e))
    (answers_always _ _ _ (λ f a r g h. search rules))
