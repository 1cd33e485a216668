use Rattle.std.proofs.Common.{◌+◌, ◌*◌, ◌/◌, ◌<◌, arith}
use Rattle.std.proofs.lemmas.Nat.{div_below}
use Rattle.scad_shapes.proofs.spheres.rounded_angle.Goals as goal

pub returns-clause-small : goal.returns-clause-small
returns-clause-small c =
    let below : (90000 * (2 * c.args.i + 1) + c.args.rings / 2) / c.args.rings < 180001 =
    div_below (90000 * (2 * c.args.i + 1) + c.args.rings / 2) c.args.rings 180001 (omega arith) (omega arith) in
    omega arith
