-- The list by directions is the ring.
use Rattle.std.proofs.Common.{sym, subst}
use Rattle.scad_ring.specs.Ring.{IsRing}
use Rattle.scad_ring.proofs.Ways.{ring_is}
use Rattle.scad_ring.proofs.widening.ring.Goals as goal

pub returns-clause-ring : goal.returns-clause-ring
returns-clause-ring c = subst (IsRing c.args.c c.args.e.now) (sym c.widened.ensures)
    (ring_is c.args.c c.requires.positive c.args.e.now)
