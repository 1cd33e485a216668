-- The value by those of the calls, and the sizes of what is handed on.
use Rattle.std.proofs.Common.{◌∙◌, ap₂, ℤ, pos, ◌-ℤ◌, ◌*ℤ◌, arith}
use Rattle.std.proofs.lemmas.Int.{to_z-of_z}
use Rattle.scad_geom.proofs.Casts.{sizes, by_cast}
use Rattle.scad_geom.proofs.Coordinates.{x_kept, y_kept}
use Rattle.scad_geom.proofs.winding_number.side_at.Goals as goal
use mir.Syntax.{w64}

pub gap-requires : goal.gap-requires
gap-requires c = omega (arith, sizes)

pub times-left-requires-clause-left : goal.times-left-requires-clause-left
times-left-requires-clause-left c = omega (arith, sizes)

pub times-left-requires-clause-right : goal.times-left-requires-clause-right
times-left-requires-clause-right c = omega (arith, sizes)

pub gap-requires-2 : goal.gap-requires-2
gap-requires-2 c = omega (arith, sizes)

pub times-right-requires-clause-left : goal.times-right-requires-clause-left
times-right-requires-clause-left c = omega (arith, sizes)

pub times-right-requires-clause-right : goal.times-right-requires-clause-right
times-right-requires-clause-right c = omega (arith, sizes)

pub minus-requires : goal.minus-requires
minus-requires c = record { fits = omega (arith, sizes) }

pub returns-clause-size : goal.returns-clause-size
returns-clause-size c = omega (arith, sizes)

pub returns-clause-value : goal.returns-clause-value
returns-clause-value c =
    let edge = c.args.edge.now in
    let a_x = x_kept edge.a c.requires.edge.a in
    let a_y = y_kept edge.a c.requires.edge.a in
    let b_x = x_kept edge.b c.requires.edge.b in
    let b_y = y_kept edge.b c.requires.edge.b in
    let x = to_z-of_z w64 c.args.x c.ranges.x in
    let y = to_z-of_z w64 c.args.y c.ranges.y in
    by_cast w64 c.minus.type_inv c.minus.ensures.difference
    ∙ ap₂ (λ left right. left -ℤ right)
    (by_cast w64 c.times-left.type_inv c.times-left.ensures.product
    ∙ ap₂ (λ along up. along *ℤ up)
    (by_cast w64 c.doubled_span.type_inv c.doubled_span.ensures.value ∙ ap₂ span b_x a_x)
    (by_cast w64 c.gap.type_inv c.gap.ensures.value ∙ ap₂ gap y a_y))
    (by_cast w64 c.times-right.type_inv c.times-right.ensures.product
    ∙ ap₂ (λ along up. along *ℤ up)
    (by_cast w64 c.doubled_span-2.type_inv c.doubled_span-2.ensures.value ∙ ap₂ span b_y a_y)
    (by_cast w64 c.gap-2.type_inv c.gap-2.ensures.value ∙ ap₂ gap x a_x))
  where
    span : ℤ → ℤ → ℤ
    span to from = pos 2 *ℤ to -ℤ pos 2 *ℤ from

    gap : ℤ → ℤ → ℤ
    gap to from = to -ℤ pos 2 *ℤ from
