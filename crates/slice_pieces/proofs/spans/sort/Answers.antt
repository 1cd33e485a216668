-- The comparison is that of the strict order.
use Rattle.std.proofs.Common.{rules}
use Rattle.std.proofs.lemmas.List.Sorted.{answers_always}
use Rattle.scad_geom.proofs.PointOrder.{ascending_sorted}
use Rattle.slice_pieces.specs.Spans.{is_less}
use Rattle.slice_pieces.proofs.SideBySide.{less_order}
use Rattle.slice_pieces.proofs.spans.sort.Goals as goal

pub returns-clause-ascending : goal.returns-clause-ascending
returns-clause-ascending c = ascending_sorted is_less less_order c.sort_unstable_by.new.self.items
    (c.sort_unstable_by.ensures.sorted is_less less_order (answers_always _ _ _ (λ f a r g h. search rules)))
