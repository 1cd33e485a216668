-- The last passage ends its bundle, and one that doesn't coincide with the next.
use Rattle.std.proofs.Common.{◌+◌, ◌<◌, suc, length, sym, ap, ap₂, ◌∙◌, arith, add-one, eq-eqb, not}
use Rattle.slice_slab.specs.Passages.{is_aligned}
use Rattle.slice_slab.proofs.Steps.{last_ends, next_ends}
use Rattle.slice_slab.proofs.group.is_last.Goals as goal

pub returns-then-i-passages : goal.returns-then-i-passages
returns-then-i-passages c = eq-eqb (c.args.i + 1) (length c.args.passages.now) c.if-i-passages.true ∙ sym
    (last_ends c.args.passages.now c.args.i c.if-i-passages.true)

pub returns-else-i-passages : goal.returns-else-i-passages
returns-else-i-passages c =
    let h = c.if-i-passages.false in
    let there : suc c.args.i < length c.args.passages.now = omega (arith, c.requires) in
    let s = rw (← add-one) at (next_ends c.args.passages.now c.args.i c.index-passages-i.result
    c.index-passages-i-else-i-passages.result there) in
    ap not (c.are_aligned.ensures ∙ ap₂ is_aligned c.index-passages-i.is c.index-passages-i-else-i-passages.is)
    ∙ sym s
