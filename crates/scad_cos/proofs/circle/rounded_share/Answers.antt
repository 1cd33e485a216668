use Rattle.std.proofs.Common.{◌+◌, ◌*◌, ◌/◌, ◌<◌, arith}
use Rattle.std.proofs.lemmas.Nat.{div_below}
use Rattle.scad_cos.proofs.circle.rounded_share.Goals as goal

pub returns-clause-within : goal.returns-clause-within
returns-clause-within c =
    let below : (360000 * c.args.i + c.args.n / 2) / c.args.n < 360001 = div_below (360000 * c.args.i + c.args.n / 2)
    c.args.n 360001 (omega arith) (omega arith) in
    omega arith
