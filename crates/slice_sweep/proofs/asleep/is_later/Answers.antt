-- The step says below which keys its lower height lies.
use Rattle.std.proofs.Common.{arith, rules, FitsSigned}
use Rattle.std.proofs.lemmas.Int.{to_z-of_z}
use Rattle.slice_sweep.proofs.PassedNumbers.{less_by}
use Rattle.slice_sweep.proofs.asleep.is_later.Goals as goal
use mir.Syntax.{w128}

pub returns : goal.returns
returns c h =
    let key = c.args.step.now.key in
    let narrow = c.ranges.wake in
    let small = narrow.sfits in
    let key_fits : FitsSigned w128 key = search rules in
    let wide : FitsSigned w128 c.args.wake = record { sfits = omega (arith, small) } in
    c.args.step.now.key_is c.args.wake (less_by key c.args.wake (simp to_z-of_z at h))
