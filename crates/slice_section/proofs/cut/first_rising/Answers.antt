-- The next side is the first that rises through the plane, or is passed over.
use Rattle.std.proofs.Common.{ℤ, true, false, refl, sym, ap, ◌∙◌, to_z, of_z}
use Rattle.std.specs.Prelude.{find}
use Rattle.std.proofs.lemmas.Int.{to_z-of_z}
use Rattle.std.proofs.lemmas.List.{at_drop_all}
use mir.Syntax.{w128}
use Rattle.scad_solid.specs.Cut.{rises}
use Rattle.slice_section.proofs.FirstSide.{first_more}
use Rattle.slice_section.proofs.cut.first_rising.Goals as goal

pub sides-init : goal.sides-init
sides-init c = refl

pub returns-then-rises : goal.returns-then-rises
returns-then-rises c =
    let plane : ℤ = to_z w128 (of_z w128 c.args.plane) in
    sym (first_more (rises plane) c.args.sides.now c.sides.side-index true c.sides-test.true
    (sym c.rises.ensures ∙ c.if-rises.true))
    ∙ c.sides.invariant
    ∙ ap (λ (p : ℤ). find (rises p) c.args.sides.now) (to_z-of_z w128 c.args.plane c.ranges.plane)

pub sides-preserved : goal.sides-preserved
sides-preserved c =
    let plane : ℤ = to_z w128 (of_z w128 c.args.plane) in
    sym (first_more (rises plane) c.args.sides.now c.sides.side-index false c.sides-test.true
    (sym c.rises.ensures ∙ c.if-rises.false))
    ∙ c.sides.invariant

pub returns : goal.returns
returns c =
    let plane : ℤ = to_z w128 (of_z w128 c.args.plane) in
    sym (at_drop_all (find (rises plane)) c.args.sides.now c.sides.side-index c.sides-test.false)
    ∙ c.sides.invariant
    ∙ ap (λ (p : ℤ). find (rises p) c.args.sides.now) (to_z-of_z w128 c.args.plane c.ranges.plane)
