use Rattle.std.proofs.Common.{◌≡◌, subst}
use Rattle.scad_solid.specs.Laws.{HoldBetween}
use Rattle.scad_base.specs.Memory.{UnlessMemory}
use Rattle.scad_shapes.specs.Faults.{is_memory}
use Rattle.scad_shapes.specs.Rings.{two_rings, cube_rings, solid_of_rings}
use Rattle.scad_shapes.specs.Laws.{first_corner, last_corner}
use Rattle.scad_shapes.proofs.Holds.{of_solid, cubes_hold}
use Rattle.scad_shapes.proofs.prisms.cube.Goals as goal

pub returns-clause-holds : goal.returns-clause-holds
returns-clause-holds c diagonal =
    let a = c.args in
    let rings : two_rings a.m.now c.rectangle-ring.result c.rectangle-ring.result c.extent-low.result.0
    c.extent-low.result.1 ≡ cube_rings a.x a.y a.z a.center a.m.now =
    (λ i. two_rings a.m.now (c.rectangle-ring.ensures i) (c.rectangle-ring.ensures i) (c.extent-low.ensures.begins i)
    (c.extent-low.ensures.ends i)) in
    of_solid (HoldBetween (first_corner a.x a.y a.z a.center a.m.now) (last_corner a.x a.y a.z a.center a.m.now))
    (cube_rings a.x a.y a.z a.center a.m.now) (cubes_hold.each a.x a.y a.z a.center a.m.now diagonal) c.prism.result
    (subst (λ rings. UnlessMemory is_memory c.prism.result (c.prism.result ≡ solid_of_rings rings)) rings
    c.prism.ensures.solid)
