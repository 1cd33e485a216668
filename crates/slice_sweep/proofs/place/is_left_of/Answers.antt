-- The two products, and the sizes of what is handed on.
use Rattle.std.proofs.Common.{arith, refl, ap, ◌∙◌}
use Rattle.scad_geom.specs.declared.point.Edge.{Edge}
use Rattle.scad_geom.specs.Line.{rise, x_at}
use Rattle.scad_geom.proofs.Casts.{sizes}
use Rattle.slice_sweep.proofs.PassedNumbers.{both, product_of}
use Rattle.slice_sweep.proofs.place.is_left_of.Goals as goal
use lib.Signed.{lt_z}

pub x_at-requires : goal.x_at-requires
x_at-requires c = record { edge = c.head-first.ensures.within c.requires.within; level = c.requires.at }

pub rise-requires : goal.rise-requires
rise-requires c = c.head-first.ensures.within c.requires.within

pub times-requires-clause-left : goal.times-requires-clause-left
times-requires-clause-left c = omega (arith, sizes)

pub times-requires-clause-right : goal.times-requires-clause-right
times-requires-clause-right c = omega (arith, sizes)

pub times-requires-2-clause-left : goal.times-requires-2-clause-left
times-requires-2-clause-left c = omega (arith, sizes)

pub times-requires-2-clause-right : goal.times-requires-2-clause-right
times-requires-2-clause-right c = omega (arith, sizes)

pub returns : goal.returns
returns c =
    let at = c.args.at.now in
    let e = c.head-first.ensures.value in
    both lt_z (product_of c.times.result c.x_at.result c.args.up _ _ (record { sfits = c.times.type_inv })
    (record { sfits = c.x_at.type_inv }) c.ranges.up c.times.ensures.product
    (c.x_at.ensures.value ∙ ap (λ (f : Edge). x_at f at.n at.d) e) refl)
    (product_of c.times-2.result c.args.x c.rise.result _ _ (record { sfits = c.times-2.type_inv }) c.ranges.x
    (record { sfits = c.rise.type_inv }) c.times-2.ensures.product refl (c.rise.ensures.value ∙ ap rise e))
