use Rattle.std.proofs.Common.{◌≡◌, ◌+◌, ◌++◌, drop}
use Rattle.plan_walls.specs.Walls.{rings_from}
use Rattle.plan_walls.proofs.edges.push_rings.Given as goal

abbrev pub invariant-around : goal.invariant-around
invariant-around l = l.edges.items ++ rings_from l.c (l.i + 1)
    (drop l.i l.around) ≡ l.fn.edges.items ++ rings_from l.c 1 l.around
