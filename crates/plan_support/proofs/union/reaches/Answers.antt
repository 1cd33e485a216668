-- Both ends fit 32 bits, so the sum fits 64, and they are compared as they are.
use Rattle.std.proofs.Common.{FitsSigned, ap₂, rules}
use lib.Signed.{le_z}
use mir.Syntax.{w32}
use Rattle.plan_support.proofs.Widened.{widened, widened_fits, widened_next}
use Rattle.plan_support.proofs.union.reaches.Goals as goal

pub overflow_add-result : goal.overflow_add-result
overflow_add-result c =
    let fits : FitsSigned w32 c.args.first.to = search rules in
    widened_fits c.args.first.to fits

pub returns : goal.returns
returns c =
    let start_fits : FitsSigned w32 c.args.second.from = search rules in
    let end_fits : FitsSigned w32 c.args.first.to = search rules in
    ap₂ le_z (widened c.args.second.from start_fits) (widened_next c.args.first.to end_fits)
