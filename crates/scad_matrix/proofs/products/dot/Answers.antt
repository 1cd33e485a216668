-- The shift's product is added to the sum of the others.
use Rattle.std.proofs.Common.{◌≤◌, ℤ, ◌*ℤ◌, ◌+ℤ◌, unsigned_abs, FitsSigned, arith, ap, ap₂, ◌∙◌}
use Rattle.std.proofs.lemmas.Int.{ints, to_z-of_z}
use Rattle.scad_num.specs.Number.{one, most}
use Rattle.scad_matrix.proofs.Sums.{shifted_is_small, shifted_fits}
use Rattle.scad_matrix.proofs.products.dot.Goals as goal
use mir.Syntax.{w64, w128}

number_fits : (n : ℤ) → unsigned_abs n ≤ most → FitsSigned w128 n
number_fits n small = omega (arith, ints)

last_wide : (n : ℤ) → unsigned_abs n ≤ one → FitsSigned w128 n
last_wide n small = omega (arith, ints)

pub plus-requires : goal.plus-requires
plus-requires c =
    let left_fits : FitsSigned w128 c.unshifted.result = record { sfits = c.unshifted.type_inv } in
    let right_fits : FitsSigned w128 c.times.result = record { sfits = c.times.type_inv } in
    record {
      fits = simp to_z-of_z (shifted_fits c.unshifted.result c.times.result c.unshifted.ensures.size
          c.times.ensures.size);
    }

pub returns-clause-value : goal.returns-clause-value
returns-clause-value c =
    let last_fits = c.ranges.last in
    let shift_fits : FitsSigned w64 c.millionths.result = record { sfits = c.millionths.type_inv } in
    let left_fits : FitsSigned w128 c.unshifted.result = record { sfits = c.unshifted.type_inv } in
    let right_fits : FitsSigned w128 c.times.result = record { sfits = c.times.type_inv } in
    let all_fits : FitsSigned w128 c.plus.result = record { sfits = c.plus.type_inv } in
    let small : unsigned_abs c.millionths.result ≤ most = rw c.millionths.ensures.value c.millionths.ensures.in_range in
    let shift_wide = number_fits c.millionths.result small in
    let last_wide_fits = last_wide c.args.last c.requires in
    simp to_z-of_z (simp to_z-of_z at c.plus.ensures.sum ∙ ap₂ (λ a b. a +ℤ b) c.unshifted.ensures.value
    (simp to_z-of_z at c.times.ensures.product ∙ ap (λ s. s *ℤ c.args.last) c.millionths.ensures.value))

pub returns-clause-size : goal.returns-clause-size
returns-clause-size c =
    let left_fits : FitsSigned w128 c.unshifted.result = record { sfits = c.unshifted.type_inv } in
    let right_fits : FitsSigned w128 c.times.result = record { sfits = c.times.type_inv } in
    let all_fits : FitsSigned w128 c.plus.result = record { sfits = c.plus.type_inv } in
    simp to_z-of_z (shifted_is_small c.unshifted.result c.times.result c.plus.result c.unshifted.ensures.size
    c.times.ensures.size (simp to_z-of_z at c.plus.ensures.size))
