-- The fans so far and those of the rings left are all.
use Rattle.std.proofs.Common.{◌≡◌, ◌++◌, drop, map}
use Rattle.std.specs.List.{flat_map}
use Rattle.scad_solid.specs.Solid.{fan}
use Rattle.scad_hull.specs.Node.{point_of}
use Rattle.scad_hull.proofs.solid.fans.Given as goal

abbrev pub invariant-rings : goal.invariant-rings
invariant-rings l = l.triangles.items ++ flat_map (λ r. fan (map point_of r.items)) (drop l.ring-index l.rings)
    ≡ flat_map (λ r. fan (map point_of r.items)) l.fn.rings
