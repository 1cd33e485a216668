use Rattle.std.proofs.Common.{FitsSigned}
use Rattle.std.proofs.lemmas.Int.{to_z-of_z}
use Rattle.plan_infill.proofs.Quotients.{floor_is}
use Rattle.plan_support.proofs.near.floor.Goals as goal
use mir.Syntax.{w128}

pub returns : goal.returns
returns c =
    let n_fits = c.ranges.n in
    let d_fits = c.ranges.d in
    let q_fits : FitsSigned w128 c.div_euclid.result = record { sfits = c.div_euclid.type_inv } in
    simp to_z-of_z (floor_is c.args.n c.args.d c.div_euclid.result c.requires.divisor
    (simp to_z-of_z at c.div_euclid.ensures))
