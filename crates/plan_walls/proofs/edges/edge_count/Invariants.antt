use Rattle.std.proofs.Common.{◌≡◌, ◌+◌, length, drop}
use Rattle.std.specs.Prelude.{sum_by}
use Rattle.plan_walls.proofs.Counts.{corner_count}
use Rattle.plan_walls.proofs.edges.edge_count.Given as goal

abbrev pub invariant-around : goal.invariant-around
invariant-around l = l.count + sum_by (corner_count l.c) (drop l.edge-index l.around) ≡ length l.around + sum_by
    (corner_count l.c) l.around
