-- The closure compares by the places.
use Rattle.std.proofs.Common.{rules}
use Rattle.std.proofs.lemmas.Result.{on_ok_weaker}
use Rattle.std.proofs.lemmas.List.Sorted.{answers_always}
use Rattle.scad_base.proofs.Tests.{is_lt-int_cmp}
use Rattle.plan_infill.proofs.StepOrder.{comes_before, place_order, in_order}
use Rattle.plan_infill.proofs.infill.sort.Goals as goal

pub returns-clause-order : goal.returns-clause-order
returns-clause-order c = on_ok_weaker c.sort_by.result
    (λ s. in_order c.sort_by.new.self.items
    (s comes_before place_order (answers_always _ _ _ (λ f a r g h. search (rules, is_lt-int_cmp)))))
    c.sort_by.ensures.sorted
