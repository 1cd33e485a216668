use Rattle.slice_pieces.proofs.SideBySide.{Left}
use Rattle.slice_pieces.proofs.cancelling.cancel_sorted.Given as goal

abbrev pub invariant-edges : goal.invariant-edges
invariant-edges l = Left l.edges l.edge-index l.left.items
