-- The sides of an outline more, and of none.
use Rattle.plan_sides.proofs.Pushes.{sides_more, sides_end}
use Rattle.plan_sides.proofs.list.sides.Goals as goal

pub outlines-preserved : goal.outlines-preserved
outlines-preserved c = sides_more c.args.outlines.now c.outlines.outline-index c.outlines.out.items _
    c.as_slice.result.now _ c.outlines-test.true (cc) c.in_ok-push_sides.ensures c.outlines.invariant

pub returns : goal.returns
returns c = sides_end c.args.outlines.now c.outlines.outline-index c.outlines.out.items _ c.outlines-test.false
    c.outlines.invariant
