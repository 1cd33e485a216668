-- The next side is the first that falls through the plane, or is passed over.
use Rattle.std.proofs.Common.{ℤ, true, false, refl, sym, ap, ◌∙◌, to_z, of_z}
use Rattle.std.specs.Prelude.{find}
use Rattle.std.proofs.lemmas.Int.{to_z-of_z}
use Rattle.std.proofs.lemmas.List.{at_drop_all}
use mir.Syntax.{w128}
use Rattle.scad_solid.specs.Cut.{falls}
use Rattle.slice_section.proofs.FirstSide.{first_more}
use Rattle.slice_section.proofs.cut.first_falling.Goals as goal

pub sides-init : goal.sides-init
sides-init c = refl

pub returns-then-falls : goal.returns-then-falls
returns-then-falls c =
    let plane : ℤ = to_z w128 (of_z w128 c.args.plane) in
    sym (first_more (falls plane) c.args.sides.now c.sides.side-index true c.sides-test.true
    (sym c.falls.ensures ∙ c.if-falls.true))
    ∙ c.sides.invariant
    ∙ ap (λ (p : ℤ). find (falls p) c.args.sides.now) (to_z-of_z w128 c.args.plane c.ranges.plane)

pub sides-preserved : goal.sides-preserved
sides-preserved c =
    let plane : ℤ = to_z w128 (of_z w128 c.args.plane) in
    sym (first_more (falls plane) c.args.sides.now c.sides.side-index false c.sides-test.true
    (sym c.falls.ensures ∙ c.if-falls.false))
    ∙ c.sides.invariant

pub returns : goal.returns
returns c =
    let plane : ℤ = to_z w128 (of_z w128 c.args.plane) in
    sym (at_drop_all (find (falls plane)) c.args.sides.now c.sides.side-index c.sides-test.false)
    ∙ c.sides.invariant
    ∙ ap (λ (p : ℤ). find (falls p) c.args.sides.now) (to_z-of_z w128 c.args.plane c.ranges.plane)
