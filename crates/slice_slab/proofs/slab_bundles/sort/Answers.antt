-- The comparison is that of the strict order.
use Rattle.std.proofs.Common.{rules}
use Rattle.std.proofs.lemmas.Result.{on_ok_weaker}
use Rattle.std.proofs.lemmas.List.Sorted.{answers_always}
use Rattle.slice_slab.specs.Passages.{comes_first}
use Rattle.slice_slab.proofs.Ranking.{passage_order}
use Rattle.slice_slab.proofs.Bundling.{sorted_from}
use Rattle.slice_slab.proofs.slab_bundles.sort.Goals as goal

pub returns-clause-sorted : goal.returns-clause-sorted
returns-clause-sorted c = on_ok_weaker c.sort_by.result
    (λ s. sorted_from c.sort_by.new.self.items
    (s comes_first passage_order (answers_always _ _ _ (λ f a r g h. search rules))))
    c.sort_by.ensures.sorted
