-- The sizes of what is handed on, and the difference of the products.
use Rattle.std.proofs.Common.{◌≡◌, to_z, of_z, ap, arith}
use Rattle.scad_geom.specs.declared.point.Pt.{Pt}
use Rattle.scad_geom.specs.Line.{low, offset}
use Rattle.scad_geom.proofs.Casts.{sizes}
use Rattle.scad_geom.proofs.Casts.{difference_by, product_by, by_cast, widened}
use mir.Syntax.{w32, w64}
use Rattle.slice_events.proofs.line.offset_of.Goals as goal

pub times-up-requires-clause-left : goal.times-up-requires-clause-left
times-up-requires-clause-left c = omega (arith, sizes)

pub times-up-requires-clause-right : goal.times-up-requires-clause-right
times-up-requires-clause-right c =
    let within = c.low-from.ensures.within c.requires in
    omega (arith, sizes)

pub times-right-requires-clause-left : goal.times-right-requires-clause-left
times-right-requires-clause-left c = omega (arith, sizes)

pub times-right-requires-clause-right : goal.times-right-requires-clause-right
times-right-requires-clause-right c =
    let within = c.low-from.ensures.within c.requires in
    omega (arith, sizes)

pub minus-requires : goal.minus-requires
minus-requires c = record { fits = omega (arith, sizes) }

pub returns-clause-size : goal.returns-clause-size
returns-clause-size c = omega (arith, sizes)

pub returns-clause-value : goal.returns-clause-value
unfolding offset
returns-clause-value c =
    let e = c.args.e.now in
    let from = c.low-from.result in
    let is = c.low-from.ensures.value in
    let within = c.low-from.ensures.within c.requires in
    let x : to_z w64 (of_z w64 (to_z w32 (of_z w32 from.x))) ≡ (low e).x =
    widened w32 w64 from.x (omega (arith, within.x)) (omega (arith, within.x)) (ap (λ (p : Pt). p.x) is) in
    let y : to_z w64 (of_z w64 (to_z w32 (of_z w32 from.y))) ≡ (low e).y =
    widened w32 w64 from.y (omega (arith, within.y)) (omega (arith, within.y)) (ap (λ (p : Pt). p.y) is) in
    difference_by w64 c.minus.type_inv c.minus.ensures.difference
    (product_by w64 c.times-up.type_inv c.times-up.ensures.product
    (by_cast w64 c.rise_of.type_inv c.rise_of.ensures.value) x)
    (product_by w64 c.times-right.type_inv c.times-right.ensures.product
    (by_cast w64 c.run_of.type_inv c.run_of.ensures.value) y)
