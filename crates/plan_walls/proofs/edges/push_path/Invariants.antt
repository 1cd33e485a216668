use Rattle.std.proofs.Common.{◌≡◌, ◌++◌, drop}
use Rattle.scad_geom.specs.Loop.{path}
use Rattle.plan_walls.specs.Walls.{of_leaf}
use Rattle.plan_walls.proofs.edges.push_path.Given as goal

abbrev pub invariant-points : goal.invariant-points
invariant-points l =
    l.edges.items ++ of_leaf l.leaf (path l.at (drop l.next-index l.rest) l.last) ≡ l.fn.edges.items ++ of_leaf l.leaf
    (path l.fn.first l.rest l.last)
