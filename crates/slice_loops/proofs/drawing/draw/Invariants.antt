use Rattle.std.proofs.Common.{◌∷◌, ◌+◌, length}
use Rattle.scad_geom.specs.Segment.{segments}
use Rattle.scad_geom.specs.Balance.{IsBalanced}
use Rattle.slice_loops.specs.Remaining.{remaining, IsInOrder, AllTakenTo, StayTaken}
use Rattle.slice_loops.proofs.LoopClosure.{edge}
use Rattle.slice_loops.proofs.Ways.{Leads}
use Rattle.slice_loops.proofs.drawing.draw.Given as goal

abbrev pub invariant-way : goal.invariant-way
invariant-way l = record {
  leads : Leads (remaining l.fn.left) l.first.a l.vertices.items l.at (remaining l.left);
  order : IsInOrder l.left;
  balanced : IsBalanced (segments (edge l.first.a l.at ∷ remaining l.left));
  taken : StayTaken l.fn.left l.left;
  least : AllTakenTo l.left (l.fn.place + 1);
}

abbrev pub decreases-way : goal.decreases-way
decreases-way l = length (remaining l.left)
