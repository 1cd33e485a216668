-- The sum is of the products themselves, and as small as three of them.
use Rattle.std.proofs.Common.{FitsSigned}
use Rattle.std.proofs.lemmas.Int.{to_z-of_z}
use Rattle.scad_matrix.proofs.Sums.{sum_of_three, sum_is_small, sum_fits}
use Rattle.scad_matrix.proofs.products.unshifted.Goals as goal
use mir.Syntax.{w128}

pub plus-requires-2 : goal.plus-requires-2
plus-requires-2 c =
    let first_fits : FitsSigned w128 c.product.result = record { sfits = c.product.type_inv } in
    let second_fits : FitsSigned w128 c.product-2.result = record { sfits = c.product-2.type_inv } in
    let third_fits : FitsSigned w128 c.product-3.result = record { sfits = c.product-3.type_inv } in
    let both_fits : FitsSigned w128 c.plus.result = record { sfits = c.plus.type_inv } in
    record {
      fits = simp to_z-of_z (sum_fits c.product.result c.product-2.result c.product-3.result c.plus.result
          c.product.ensures.size c.product-2.ensures.size c.product-3.ensures.size
          (simp to_z-of_z at c.plus.ensures.size));
    }

pub returns-clause-value : goal.returns-clause-value
returns-clause-value c =
    let first_fits : FitsSigned w128 c.product.result = record { sfits = c.product.type_inv } in
    let second_fits : FitsSigned w128 c.product-2.result = record { sfits = c.product-2.type_inv } in
    let third_fits : FitsSigned w128 c.product-3.result = record { sfits = c.product-3.type_inv } in
    let both_fits : FitsSigned w128 c.plus.result = record { sfits = c.plus.type_inv } in
    let all_fits : FitsSigned w128 c.plus-2.result = record { sfits = c.plus-2.type_inv } in
    simp to_z-of_z (sum_of_three c.plus-2.result c.plus.result c.product-3.result _ _ _ _ _
    (simp to_z-of_z at c.plus-2.ensures.sum) (simp to_z-of_z at c.plus.ensures.sum) c.product.ensures.value
    c.product-2.ensures.value c.product-3.ensures.value)

pub returns-clause-size : goal.returns-clause-size
returns-clause-size c =
    let first_fits : FitsSigned w128 c.product.result = record { sfits = c.product.type_inv } in
    let second_fits : FitsSigned w128 c.product-2.result = record { sfits = c.product-2.type_inv } in
    let third_fits : FitsSigned w128 c.product-3.result = record { sfits = c.product-3.type_inv } in
    let both_fits : FitsSigned w128 c.plus.result = record { sfits = c.plus.type_inv } in
    let all_fits : FitsSigned w128 c.plus-2.result = record { sfits = c.plus-2.type_inv } in
    simp to_z-of_z (sum_is_small c.product.result c.product-2.result c.product-3.result c.plus.result c.plus-2.result
    c.product.ensures.size c.product-2.ensures.size c.product-3.ensures.size (simp to_z-of_z at c.plus.ensures.size)
    (simp to_z-of_z at c.plus-2.ensures.size))
