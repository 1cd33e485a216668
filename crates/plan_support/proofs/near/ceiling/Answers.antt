use Rattle.std.proofs.Common.{◌≡◌, FitsSigned, arith, pos, ◌-ℤ◌}
use Rattle.std.proofs.lemmas.Int.{ints, to_z-of_z}
use Rattle.std.specs.Int.{int_div_euclid}
use Rattle.plan_infill.specs.Quotient.{IsCeiling}
use Rattle.plan_infill.proofs.Quotients.{floor_is, floor_size, ceiling_is}
use Rattle.plan_support.proofs.near.ceiling.Goals as goal
use mir.Syntax.{w128}

pub returns : goal.returns
returns c =
    let n_fits = c.ranges.n in
    let d_fits = c.ranges.d in
    let small = c.requires.size in
    let turned : FitsSigned w128 (pos 0 -ℤ c.args.n) = omega (arith, ints) in
    let q_fits : FitsSigned w128 c.div_euclid.result = record { sfits = c.div_euclid.type_inv } in
    let told : c.div_euclid.result ≡ int_div_euclid (pos 0 -ℤ c.args.n) c.args.d =
    simp to_z-of_z at c.div_euclid.ensures in
    let bound = floor_size (pos 0 -ℤ c.args.n) c.args.d c.div_euclid.result c.requires.divisor
    (floor_is (pos 0 -ℤ c.args.n) c.args.d c.div_euclid.result c.requires.divisor told) in
    let fits : FitsSigned w128 (pos 0 -ℤ c.div_euclid.result) = omega (arith, ints, bound) in
    let is : IsCeiling c.args.n c.args.d (pos 0 -ℤ c.div_euclid.result) =
    ceiling_is c.args.n c.args.d c.div_euclid.result c.requires.divisor told in
    simp to_z-of_z is
