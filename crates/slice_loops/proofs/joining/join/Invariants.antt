use Rattle.slice_loops.proofs.LoopByLoop.{Drawn}
use Rattle.slice_loops.proofs.joining.join.Given as goal

abbrev pub invariant-places : goal.invariant-places
invariant-places l = Drawn l.edges l.left l.outlines.items l.place l.place-end
