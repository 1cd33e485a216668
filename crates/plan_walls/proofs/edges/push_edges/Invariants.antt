use Rattle.std.proofs.Common.{◌≡◌, ◌++◌, drop}
use Rattle.plan_walls.specs.Walls.{of_leaf}
use Rattle.plan_walls.proofs.edges.push_edges.Given as goal

abbrev pub invariant-around : goal.invariant-around
invariant-around l = l.edges.items ++ of_leaf 0 (drop l.edge-index l.around) ≡ l.fn.edges.items ++ of_leaf 0 l.around
