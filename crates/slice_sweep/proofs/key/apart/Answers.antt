-- The sizes of what is handed on, and the difference of the two products.
use Rattle.std.proofs.Common.{arith, ◌-ℤ◌, ◌∙◌, ℤ}
use Rattle.std.proofs.lemmas.Int.{to_z-of_z}
use Rattle.scad_geom.proofs.Casts.{sizes}
use Rattle.scad_geom.specs.Line.{apart}
use Rattle.slice_sweep.proofs.PassedNumbers.{both, product_of}
use Rattle.slice_sweep.proofs.key.apart.Goals as goal
use mir.Syntax.{w128}

pub times-requires-clause-left : goal.times-requires-clause-left
times-requires-clause-left c = omega (arith, sizes)

pub times-requires-clause-right : goal.times-requires-clause-right
times-requires-clause-right c = omega (arith, sizes)

pub times-requires-2-clause-left : goal.times-requires-2-clause-left
times-requires-2-clause-left c = omega (arith, sizes)

pub times-requires-2-clause-right : goal.times-requires-2-clause-right
times-requires-2-clause-right c = omega (arith, sizes)

pub minus-requires : goal.minus-requires
minus-requires c = record { fits = omega (arith, sizes) }

pub returns-clause-value : goal.returns-clause-value
unfolding apart
returns-clause-value c =
    to_z-of_z w128 c.minus.result (record { sfits = c.minus.type_inv }) ∙ c.minus.ensures.difference
    ∙ both (λ (x y : ℤ). x -ℤ y)
    (product_of c.times.result c.offset.result c.rise.result _ _ (record { sfits = c.times.type_inv })
    (record { sfits = c.offset.type_inv }) (record { sfits = c.rise.type_inv }) c.times.ensures.product
    c.offset.ensures.value c.rise.ensures.value)
    (product_of c.times-2.result c.offset-2.result c.rise-2.result _ _ (record { sfits = c.times-2.type_inv })
    (record { sfits = c.offset-2.type_inv }) (record { sfits = c.rise-2.type_inv }) c.times-2.ensures.product
    c.offset-2.ensures.value c.rise-2.ensures.value)

pub returns-clause-size : goal.returns-clause-size
returns-clause-size c = omega (arith, sizes)
