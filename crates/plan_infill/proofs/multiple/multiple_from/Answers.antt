use Rattle.std.proofs.Common.{◌≡◌, FitsSigned, to_z, arith, pos, ◌-ℤ◌, ◌+ℤ◌}
use Rattle.std.proofs.lemmas.Int.{ints, to_z-of_z}
use Rattle.std.specs.Int.{int_rem_euclid}
use Rattle.plan_infill.specs.Multiple.{IsMultiple}
use Rattle.plan_infill.proofs.Multiples.{least_multiple}
use Rattle.plan_infill.proofs.multiple.multiple_from.Goals as goal
use mir.Syntax.{w64}

pub returns-clause-multiple : goal.returns-clause-multiple
returns-clause-multiple c =
    let place_fits = c.ranges.place in
    let spacing_fits = c.ranges.spacing in
    let wide : FitsSigned w64 c.args.place = omega (arith, ints) in
    let turned : FitsSigned w64 (pos 0 -ℤ c.args.place) = omega (arith, ints) in
    let spaced : to_z w64 c.args.spacing ≡ pos c.args.spacing = omega (arith, ints) in
    let r_fits : FitsSigned w64 c.rem_euclid.result = record { sfits = c.rem_euclid.type_inv } in
    let told : c.rem_euclid.result ≡ int_rem_euclid (pos 0 -ℤ c.args.place) (pos c.args.spacing) =
    simp (to_z-of_z, spaced) at c.rem_euclid.ensures.value in
    let low = c.rem_euclid.ensures.lower_bound in
    let below = simp spaced at c.rem_euclid.ensures.upper_bound in
    let sum_fits : FitsSigned w64 (c.args.place +ℤ c.rem_euclid.result) = omega (arith, ints) in
    let is : IsMultiple c.args.spacing (c.args.place +ℤ c.rem_euclid.result) =
    least_multiple c.args.spacing c.args.place c.rem_euclid.result c.requires told in
    simp to_z-of_z is
