use Rattle.std.proofs.Common.{◌≡◌, ◌++◌, drop}
use Rattle.scad_geom.specs.Loop.{path}
use Rattle.plan_sides.proofs.list.push_path.Given as goal

abbrev pub invariant-points : goal.invariant-points
invariant-points l = l.out.items ++ path l.at (drop l.next-index l.rest) l.last ≡ l.fn.out.items ++ path l.fn.first
    l.rest l.last
