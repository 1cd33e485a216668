-- Sorting keeps the ends.
use Rattle.slice_snap.proofs.EndOrder.{in_order}
use Rattle.slice_snap.proofs.end_order.ends_in_order.Goals as goal

pub returns : goal.returns
returns c =
    in_order c.args.start c.args.pieces.now c.in_ok-ends.ends.items c.sort.new.ends.items c.in_ok-ends.ensures
    c.sort.ensures.permutation c.sort.ensures.sorted
