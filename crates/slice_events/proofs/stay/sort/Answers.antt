-- The comparison is that of the order.
use Rattle.std.proofs.Common.{rules}
use Rattle.std.proofs.lemmas.List.Sorted.{answers_always}
use Rattle.slice_events.specs.Stays.{comes_before}
use Rattle.slice_events.proofs.InOrder.{stay_order, in_order}
use Rattle.slice_events.proofs.stay.sort.Goals as goal

pub returns-clause-order : goal.returns-clause-order
returns-clause-order c = in_order c.sort_unstable_by.new.self.items
    (c.sort_unstable_by.ensures.sorted comes_before stay_order (answers_always _ _ _ (λ f a r g h. search rules)))
