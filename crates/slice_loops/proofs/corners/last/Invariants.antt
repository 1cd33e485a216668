use Rattle.std.proofs.Common.{◌≡◌, drop}
use Rattle.slice_loops.specs.Corners.{last}
use Rattle.slice_loops.proofs.corners.last.Given as goal

abbrev pub invariant-vertices : goal.invariant-vertices
invariant-vertices l = last l.fn.first l.rest ≡ last l.at (drop l.next-index l.rest)
