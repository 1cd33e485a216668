use Rattle.std.proofs.Common.{◌≡◌, ◌++◌, drop}
use Rattle.slice_loops.specs.Corners.{last, corners_between}
use Rattle.slice_loops.proofs.corners.corners_round.Given as goal

-- the corners so far, and those of what is left
abbrev pub invariant-vertices : goal.invariant-vertices
invariant-vertices l = corners_between (last l.first l.rest) l.first l.rest l.first ≡ l.corners.items
    ++ corners_between l.before l.at (drop l.next-index l.rest) l.first
