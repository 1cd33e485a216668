-- The comparison is that of the strict order.
use Rattle.std.proofs.Common.{rules}
use Rattle.std.proofs.lemmas.Result.{on_ok_weaker}
use Rattle.std.proofs.lemmas.List.Sorted.{answers_always}
use Rattle.slice_slab.proofs.Beginning.{starts_first, start_order, rising_from}
use Rattle.slice_slab.proofs.lower_ends.sort.Goals as goal

pub returns-clause-rising : goal.returns-clause-rising
returns-clause-rising c = on_ok_weaker c.sort_by.result
    (λ s. rising_from c.sort_by.new.self.items
    (s starts_first start_order (answers_always _ _ _ (λ f a r g h. search rules))))
    c.sort_by.ensures.sorted
