use Rattle.std.proofs.Common.{◌≡◌, FitsSigned, rules, arith, pos, ◌-ℤ◌, ◌<ℤ◌}
use lib.Signed.{◌≤ℤ◌}
use Rattle.std.specs.Int.{int_min, int_max}
use Rattle.std.proofs.lemmas.Int.{ints, to_z-of_z}
use Rattle.scad_geom.proofs.Casts.{casts}
use Rattle.plan_infill.proofs.Extents.{lesser, greater}
use Rattle.plan_support.proofs.EdgeReach.{clipped_some, clipped_none}
use Rattle.plan_support.proofs.near.clipped.Goals as goal
use mir.Syntax.{w32, w128}

pub returns-then-to-from : goal.returns-then-to-from
returns-then-to-from c =
    let first = c.first_place-from.result in
    let last = c.last_place-to.result in
    let f : first ≡ int_max c.args.reach.from (pos 0 -ℤ pos 2147483648) = search (rules, casts) in
    let t : last ≡ int_min c.args.reach.to (pos 2147483647) = search (rules, casts) in
    let o : last <ℤ first = search (rules, casts) in
    clipped_none c.args.reach.from c.args.reach.to first last f t o

pub returns : goal.returns
returns c =
    let first = c.first_place-from.result in
    let last = c.last_place-to.result in
    let first_wide : FitsSigned w128 first = record { sfits = c.first_place-from.type_inv } in
    let last_wide : FitsSigned w128 last = record { sfits = c.last_place-to.type_inv } in
    let f : first ≡ int_max c.args.reach.from (pos 0 -ℤ pos 2147483648) = search (rules, casts) in
    let t : last ≡ int_min c.args.reach.to (pos 2147483647) = search (rules, casts) in
    let o : first ≤ℤ last = search (rules, casts) in
    let low = (greater c.args.reach.from (pos 0 -ℤ pos 2147483648) first f).second in
    let high = (lesser c.args.reach.to (pos 2147483647) last t).second in
    let first_fits : FitsSigned w32 first = omega (arith, ints, low, high, o) in
    let last_fits : FitsSigned w32 last = omega (arith, ints, low, high, o) in
    simp to_z-of_z (clipped_some c.args.reach.from c.args.reach.to first last f t o)
