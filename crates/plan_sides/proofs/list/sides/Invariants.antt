use Rattle.std.proofs.Common.{◌≡◌, ◌++◌, drop, flat_map}
use Rattle.scad_geom.specs.Loop.{sides}
use Rattle.plan_sides.proofs.list.sides.Given as goal

abbrev pub invariant-outlines : goal.invariant-outlines
invariant-outlines l = l.out.items ++ flat_map sides (drop l.outline-index l.outlines) ≡ flat_map sides l.outlines
