-- A sum of numbers of 32 bits, as one of 128.
use Rattle.std.proofs.Common.{FitsSigned, rules}
use mir.Syntax.{w32}
use Rattle.plan_infill.proofs.Places.{wide_sum, sum_size}
use Rattle.plan_infill.proofs.near_steps.sum.Goals as goal

pub returns : goal.returns
returns c =
    let x : FitsSigned w32 c.args.p.x = search rules in
    let y : FitsSigned w32 c.args.p.y = search rules in
    let is = wide_sum c.args.p.x c.args.p.y x y in
    record { value = is; size = sum_size c.args.p.x c.args.p.y _ x y is }
