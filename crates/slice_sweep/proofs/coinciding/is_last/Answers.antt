-- The last ray ends its bundle, and one that doesn't coincide with the next.
use Rattle.std.proofs.Common.{◌+◌, ◌<◌, suc, length, sym, ap, ap₂, ◌∙◌, arith, add-one, eq-eqb, not}
use Rattle.slice_sweep.specs.Rays.{is_parallel}
use Rattle.slice_sweep.proofs.RaySteps.{last_ends, next_ends}
use Rattle.slice_sweep.proofs.coinciding.is_last.Goals as goal

pub returns-then-i-rays : goal.returns-then-i-rays
returns-then-i-rays c = eq-eqb (c.args.i + 1) (length c.args.rays.now) c.if-i-rays.true ∙ sym
    (last_ends c.args.rays.now c.args.i c.if-i-rays.true)

pub returns-else-i-rays : goal.returns-else-i-rays
returns-else-i-rays c =
    let h = c.if-i-rays.false in
    let there : suc c.args.i < length c.args.rays.now = omega (arith, c.requires) in
    let s = rw (← add-one) at (next_ends c.args.rays.now c.args.i c.index-rays-i.result
    c.index-rays-i-else-i-rays.result there) in
    ap not (c.are_parallel.ensures ∙ ap₂ is_parallel c.index-rays-i.is c.index-rays-i-else-i-rays.is)
    ∙ sym s
