-- The comparison is that of the strict order.
use Rattle.std.proofs.Common.{rules}
use Rattle.std.proofs.lemmas.Result.{on_ok_weaker}
use Rattle.std.proofs.lemmas.List.Sorted.{answers_always}
use Rattle.scad_base.proofs.Tests.{is_lt-int_cmp}
use Rattle.slice_border.proofs.Stopping.{comes_left, stop_order, sorted_from}
use Rattle.slice_border.proofs.stops.sort.Goals as goal

pub returns-clause-sorted : goal.returns-clause-sorted
returns-clause-sorted c = on_ok_weaker c.sort_by.result
    (λ s. sorted_from c.sort_by.new.self.items
    (s comes_left stop_order (answers_always _ _ _ (λ f a r g h. search (rules, is_lt-int_cmp)))))
    c.sort_by.ensures.sorted
