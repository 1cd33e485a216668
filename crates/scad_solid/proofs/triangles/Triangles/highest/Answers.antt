-- The top of the next triangle is compared with the highest so far.
use Rattle.std.proofs.Common.{FitsSigned, Some, ap, ◌∙◌}
use Rattle.std.proofs.lemmas.Int.{to_z-of_z}
use Rattle.scad_solid.specs.Height.{highest_of}
use Rattle.scad_solid.proofs.Collected.{origin}
use Rattle.scad_solid.proofs.Heights.{highest-all, highest-more}
use Rattle.scad_solid.proofs.triangles.Triangles.highest.Goals as goal
use mir.Syntax.{w32}

pub loop-triangle-preserved : goal.loop-triangle-preserved
loop-triangle-preserved c =
    let top_fits : FitsSigned w32 c.top.result = record { sfits = c.top.type_inv } in
    let new_fits : FitsSigned w32 c.higher.result = record { sfits = c.higher.type_inv } in
    highest-more c.deref-triangle-items.result.now c.loop-triangle.triangle-index c.loop-triangle.highest
    (record { a = origin; b = origin; c = origin }) c.loop-triangle-test.true _ _
    (highest_of c.deref-triangle-items.result.now) (to_z-of_z w32 c.top.result top_fits ∙ c.top.ensures)
    (ap Some (to_z-of_z w32 c.higher.result new_fits) ∙ c.higher.ensures) c.loop-triangle.invariant

pub returns : goal.returns
returns c =
    highest-all c.deref-triangle-items.result.now c.loop-triangle.triangle-index c.loop-triangle.highest
    c.loop-triangle-test.false (highest_of c.deref-triangle-items.result.now) c.loop-triangle.invariant
    ∙ ap highest_of (c.deref-triangle-items.ensures.value ∙ c.self.view_is)
