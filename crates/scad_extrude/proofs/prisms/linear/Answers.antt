use Rattle.std.proofs.Common.{◌≡◌, ◌+ℤ◌, subst}
use Rattle.scad_base.specs.Memory.{UnlessMemory}
use Rattle.scad_solid.specs.Laws.{HoldInside}
use Rattle.scad_shapes.specs.Faults.{is_memory}
use Rattle.scad_shapes.specs.Outline.{start_of}
use Rattle.scad_shapes.specs.Rings.{two_rings, solid_of_rings}
use Rattle.scad_shapes.specs.Laws.{placed_outline, placed_height}
use Rattle.scad_shapes.proofs.Holds.{of_solid, placed_prisms_hold}
use Rattle.scad_extrude.specs.Linear.{linear_rings}
use Rattle.scad_extrude.proofs.prisms.linear.Goals as goal

pub returns-clause-holds : goal.returns-clause-holds
returns-clause-holds c upright =
    let a = c.args in
    let rings : two_rings a.m.now a.ring.now a.ring.now c.extent-low.result.0 c.extent-low.result.1 ≡ linear_rings
    a.ring.now a.height a.center a.m.now =
    (λ i. two_rings a.m.now a.ring.now a.ring.now (c.extent-low.ensures.begins i) (c.extent-low.ensures.ends i)) in
    of_solid (HoldInside (placed_outline a.m.now a.ring.now)
    (placed_height a.m.now (start_of a.height a.center +ℤ a.height))
    (placed_height a.m.now (start_of a.height a.center)))
    (linear_rings a.ring.now a.height a.center a.m.now) (placed_prisms_hold.each a.ring.now (start_of a.height a.center)
    (start_of a.height a.center +ℤ a.height) a.m.now upright) c.prism.result
    (subst (λ rings. UnlessMemory is_memory c.prism.result (c.prism.result ≡ solid_of_rings rings)) rings
    c.prism.ensures.solid)
