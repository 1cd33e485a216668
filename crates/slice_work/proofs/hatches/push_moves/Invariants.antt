use Rattle.std.proofs.Common.{◌≡◌, ◌++◌, drop}
use Rattle.plan_layer.specs.Moves.{moves, moves_from}
use Rattle.slice_work.proofs.hatches.push_moves.Given as goal

abbrev pub invariant-points : goal.invariant-points
invariant-points l = l.edges.items ++ moves_from l.from (drop l.to-index l.rest)
    ≡ l.fn.edges.items ++ moves l.fn.points
