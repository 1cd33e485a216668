use Rattle.std.proofs.Common.{◌≡◌, ◌+ℤ◌, ap, sym, ◌∙◌, subst}
use Rattle.scad_solid.specs.Laws.{HoldInside}
use Rattle.scad_shapes.specs.Outline.{start_of, circle}
use Rattle.scad_base.specs.Memory.{UnlessMemory}
use Rattle.scad_shapes.specs.Faults.{is_memory}
use Rattle.scad_shapes.specs.Rings.{two_rings, cylinder_rings, solid_of_rings}
use Rattle.scad_shapes.specs.Laws.{placed_outline, placed_height}
use Rattle.scad_shapes.proofs.Holds.{of_solid, cylinders_hold}
use Rattle.scad_shapes.proofs.prisms.cylinder.Goals as goal

pub returns-clause-holds : goal.returns-clause-holds
returns-clause-holds c upright equal =
    let a = c.args in
    let bottom : c.as_slice.result.now ≡ circle a.r1 a.n = c.as_slice.ensures.value ∙ c.in-Ok.ensures.vertices in
    let top : c.as_slice-2.result.now ≡ circle a.r1 a.n = c.as_slice-2.ensures.value ∙ c.in-Ok-circle.ensures.vertices ∙
    ap (λ r. circle r a.n) (sym equal) in
    let rings : two_rings a.m.now c.as_slice.result.now c.as_slice-2.result.now c.extent-low.result.0
    c.extent-low.result.1 ≡ cylinder_rings a.h a.r1 a.r1 a.n a.center a.m.now =
    (λ i. two_rings a.m.now (bottom i) (top i) (c.extent-low.ensures.begins i) (c.extent-low.ensures.ends i)) in
    of_solid (HoldInside (placed_outline a.m.now (circle a.r1 a.n))
    (placed_height a.m.now (start_of a.h a.center +ℤ a.h)) (placed_height a.m.now (start_of a.h a.center)))
    (cylinder_rings a.h a.r1 a.r1 a.n a.center a.m.now) (cylinders_hold.each a.h a.r1 a.n a.center a.m.now upright)
    c.prism.result
    (subst (λ rings. UnlessMemory is_memory c.prism.result (c.prism.result ≡ solid_of_rings rings)) rings
    c.prism.ensures.solid)
