-- All strands up to the place sleep, so they stay as they are.
use Rattle.std.proofs.Common.{arith}
use Rattle.slice_sweep.proofs.Blocks.{Passed, slept}
use Rattle.slice_sweep.proofs.asleep.pass_asleep.Goals as goal
use Rattle.slice_sweep.proofs.asleep.pass_asleep.Goals.{After-asleep}

passed : (c : After-asleep) → Passed c.args.step.now.edges.now c.args.step.now.lower.now c.args.step.now.upper.now
    c.args.step.now.lower_within c.requires.neighbours c.args.strands.now c.args.from c.asleep.place
passed c =
    let s = c.args.step.now in
    let i = c.asleep.invariant in
    let from = i.from in
    let next = i.next in
    let within = i.within in
    slept s.edges.now s.lower.now s.upper.now s.lower_within c.requires.neighbours c.args.strands.now c.args.from
    c.asleep.place from (omega (arith, next, within)) c.requires.mended (λ j p q. i.asleep j p (omega (arith, next, q)))

pub returns-clause-mended : goal.returns-clause-mended
returns-clause-mended c = (passed c).0

pub returns-clause-told : goal.returns-clause-told
returns-clause-told c = (passed c).1
