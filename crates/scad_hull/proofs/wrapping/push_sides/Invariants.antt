-- The sides so far, with those of the corners left, are all.
use Rattle.std.proofs.Common.{◌≡◌, drop}
use Rattle.scad_solid.specs.Stack.{path, ring_sides}
use Rattle.scad_hull.specs.Distinct.{with_all}
use Rattle.scad_hull.specs.Wrapping.{side_cmp}
use Rattle.scad_hull.proofs.wrapping.push_sides.Given as goal

abbrev pub invariant-corners : goal.invariant-corners
invariant-corners l = with_all side_cmp l.sides.keys (path l.from (drop l.to-index l.rest) l.first)
    ≡ with_all side_cmp l.fn.sides.keys (ring_sides l.fn.ring)
