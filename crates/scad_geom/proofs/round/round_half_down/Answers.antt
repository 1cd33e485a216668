use Rattle.std.proofs.Common.{pos, ◌-ℤ◌, ◌*ℤ◌, FitsSigned, arith}
use Rattle.std.proofs.lemmas.Int.{ints, to_z-of_z}
use Rattle.scad_geom.specs.Limits.{coordinate_limit}
use Rattle.scad_geom.proofs.Nearest.{Rounds, rounds}
use Rattle.scad_geom.proofs.round.round_half_down.Goals as goal
use mir.Syntax.{w128, w32}

facts : (c : goal.After-div_euclid) → Rounds c.args.n c.args.d (pos 0 -ℤ c.div_euclid.result) coordinate_limit
facts c =
    let n_fits = c.ranges.n in
    let d_fits = c.ranges.d in
    let twice_n : FitsSigned w128 (pos 2 *ℤ c.args.n) = omega (arith, ints) in
    let twice_d : FitsSigned w128 (pos 2 *ℤ c.args.d) = omega (arith, ints) in
    let apart : FitsSigned w128 (c.args.d -ℤ pos 2 *ℤ c.args.n) = omega (arith, ints) in
    rounds c.args.n c.args.d c.div_euclid.result coordinate_limit c.requires.divisor c.requires.range
    (simp to_z-of_z at c.div_euclid.ensures)

pub overflow_sub-result : goal.overflow_sub-result
overflow_sub-result c =
    let small = (facts c).size in
    let q_fits : FitsSigned w128 c.div_euclid.result = record { sfits = c.div_euclid.type_inv } in
    simp to_z-of_z (omega (arith, ints))

pub overflow_cast-result : goal.overflow_cast-result
overflow_cast-result c =
    let told = facts c in
    let small = told.size in
    let q_fits : FitsSigned w128 c.div_euclid.result = record { sfits = c.div_euclid.type_inv } in
    let r_fits : FitsSigned w128 (pos 0 -ℤ c.div_euclid.result) = omega (arith, ints) in
    let narrow : FitsSigned w32 (pos 0 -ℤ c.div_euclid.result) = omega (arith, ints) in
    simp to_z-of_z narrow

pub returns-clause-value : goal.returns-clause-value
returns-clause-value c =
    let told = facts c in
    let small = told.size in
    let q_fits : FitsSigned w128 c.div_euclid.result = record { sfits = c.div_euclid.type_inv } in
    let r_fits : FitsSigned w128 (pos 0 -ℤ c.div_euclid.result) = omega (arith, ints) in
    let narrow : FitsSigned w32 (pos 0 -ℤ c.div_euclid.result) = omega (arith, ints) in
    simp to_z-of_z told.value

pub returns-clause-nearest : goal.returns-clause-nearest
returns-clause-nearest c =
    let told = facts c in
    let small = told.size in
    let q_fits : FitsSigned w128 c.div_euclid.result = record { sfits = c.div_euclid.type_inv } in
    let r_fits : FitsSigned w128 (pos 0 -ℤ c.div_euclid.result) = omega (arith, ints) in
    let narrow : FitsSigned w32 (pos 0 -ℤ c.div_euclid.result) = omega (arith, ints) in
    simp to_z-of_z told.nearest

pub returns-clause-size : goal.returns-clause-size
returns-clause-size c =
    let told = facts c in
    let small = told.size in
    let q_fits : FitsSigned w128 c.div_euclid.result = record { sfits = c.div_euclid.type_inv } in
    let r_fits : FitsSigned w128 (pos 0 -ℤ c.div_euclid.result) = omega (arith, ints) in
    let narrow : FitsSigned w32 (pos 0 -ℤ c.div_euclid.result) = omega (arith, ints) in
    simp to_z-of_z small
