-- The turn of the cut is that of the triangle, and the sizes of what is handed on.
use Rattle.std.proofs.Common.{◌≡◌, ◌≤◌, ◌^◌, ℤ, true, FitsSigned, unsigned_abs, sym, subst, ap₂, ◌∙◌}
use Rattle.std.proofs.lemmas.Int.{to_z-of_z}
use Rattle.scad_geom.specs.Point.{halves}
use Rattle.scad_geom.specs.Winding.{turn}
use Rattle.slice_section.specs.Exact.{point_of}
use Rattle.slice_section.proofs.WindingSum.{turn-found}
use Rattle.slice_section.proofs.inside.turn_of.Goals as goal
use mir.Syntax.{w128}

pub returns-clause-value : goal.returns-clause-value
returns-clause-value c =
    let plane_fits = c.ranges.plane in
    let x_fits = c.ranges.x in
    let y_fits = c.ranges.y in
    let fits : FitsSigned w128 c.crossing.result = record { sfits = c.crossing.type_inv } in
    let value : c.crossing.result ≡ turn true true (halves c.args.x c.args.y) (point_of c.point_between-from.result)
    (point_of c.point_between-to.result) = simp to_z-of_z at c.crossing.ensures.value in
    let from = simp to_z-of_z at c.point_between-from.ensures.value in
    let to = simp to_z-of_z at c.point_between-to.ensures.value in
    let falling = simp to_z-of_z at c.in-Some.ensures.first in
    let rising = simp to_z-of_z at c.in-Some-rising.ensures.first in
    simp to_z-of_z (
    value ∙ ap₂ (turn true true (halves c.args.x c.args.y)) from to
    ∙ turn-found c.args.plane (halves c.args.x c.args.y) c.args.triangle.now c.in-Some.falling c.in-Some-rising.rising
    falling rising
    )

pub crossing-requires-clause-a : goal.crossing-requires-clause-a
crossing-requires-clause-a c = c.point_between-from.ensures.small

pub crossing-requires-clause-b : goal.crossing-requires-clause-b
crossing-requires-clause-b c = c.point_between-to.ensures.small

pub crossing-requires-clause-x : goal.crossing-requires-clause-x
crossing-requires-clause-x c =
    subst (λ (z : ℤ). unsigned_abs z ≤ 2 ^ 33) (sym (to_z-of_z w128 c.args.x c.ranges.x)) c.requires.x

pub crossing-requires-clause-y : goal.crossing-requires-clause-y
crossing-requires-clause-y c =
    subst (λ (z : ℤ). unsigned_abs z ≤ 2 ^ 33) (sym (to_z-of_z w128 c.args.y c.ranges.y)) c.requires.y

pub returns-clause-size : goal.returns-clause-size
returns-clause-size c =
    subst (λ (z : ℤ). unsigned_abs z ≤ 1)
    (sym (to_z-of_z w128 c.crossing.result (record { sfits = c.crossing.type_inv }))) c.crossing.ensures.size
