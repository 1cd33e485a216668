-- The closure compares as the strict order does.
use Rattle.std.proofs.Common.{rules}
use Rattle.std.proofs.lemmas.Result.{on_ok_weaker}
use Rattle.std.proofs.lemmas.List.Sorted.{answers_always}
use Rattle.slice_events.proofs.Ascending.{comes_lower, lower_order, climbing_from}
use Rattle.scad_base.proofs.Tests.{is_lt-int_cmp}
use Rattle.slice_events.proofs.distinct.sort.Goals as goal

pub returns-clause-sorted : goal.returns-clause-sorted
returns-clause-sorted c = on_ok_weaker c.sort_by.result
    (λ s. climbing_from c.sort_by.new.self.items
    (s comes_lower lower_order (answers_always _ _ _ (λ f a r g h. search (rules, is_lt-int_cmp)))))
    c.sort_by.ensures.sorted
