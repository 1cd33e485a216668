use Rattle.std.proofs.Common.{FitsSigned}
use Rattle.std.proofs.lemmas.Int.{to_z-of_z}
use Rattle.slice_sweep.proofs.Keys.{floor_is}
use Rattle.slice_sweep.proofs.key.floor.Goals as goal
use mir.Syntax.{w128}

pub returns-clause-least : goal.returns-clause-least
returns-clause-least c =
    let n_fits = c.ranges.n in
    let d_fits = c.ranges.d in
    let q_fits : FitsSigned w128 c.div_euclid.result = record { sfits = c.div_euclid.type_inv } in
    simp to_z-of_z ((floor_is c.args.n c.args.d c.div_euclid.result c.requires.divisor
    (simp to_z-of_z at c.div_euclid.ensures)).0)

pub returns-clause-most : goal.returns-clause-most
returns-clause-most c =
    let n_fits = c.ranges.n in
    let d_fits = c.ranges.d in
    let q_fits : FitsSigned w128 c.div_euclid.result = record { sfits = c.div_euclid.type_inv } in
    simp to_z-of_z ((floor_is c.args.n c.args.d c.div_euclid.result c.requires.divisor
    (simp to_z-of_z at c.div_euclid.ensures)).1)
