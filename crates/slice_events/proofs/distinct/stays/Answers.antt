-- The last height stays, and one that lies below the next.
use Rattle.std.proofs.Common.{◌+◌, ◌<◌, suc, length, get_or, sym, ap, ◌∙◌, arith, add-one, eq-eqb}
use Rattle.std.specs.Ordering.{is_lt}
use Rattle.std.specs.Prelude.{◌*ℤ◌}
use Rattle.slice_events.specs.declared.height.Height.{Height}
use Rattle.slice_events.specs.Collection.{is_lower}
use Rattle.scad_base.proofs.Tests.{is_lt-int_cmp}
use Rattle.slice_events.proofs.Repeats.{stays_last, stays_next}
use Rattle.slice_events.proofs.distinct.stays.Goals as goal

pub returns-then-i-heights : goal.returns-then-i-heights
returns-then-i-heights c = eq-eqb (c.args.i + 1) (length c.args.heights.now) c.if-i-heights.true
    ∙ sym (stays_last is_lower (λ (h : Height). h.level) c.args.heights.now c.args.i c.if-i-heights.true)

pub returns-else-i-heights : goal.returns-else-i-heights
returns-else-i-heights c =
    let h = c.if-i-heights.false in
    let p : Height = get_or c.args.heights.now c.args.i c.index-heights-i.result in
    let q : Height = get_or c.args.heights.now (c.args.i + 1) c.index-heights-i-else-i-heights.result in
    let there : suc c.args.i < length c.args.heights.now = omega (arith, c.requires) in
    let s = rw (← add-one) at (stays_next is_lower (λ (h : Height). h.level) c.args.heights.now c.args.i c.index-heights-i.result c.index-heights-i-else-i-heights.result there) in
    c.is_lt.ensures ∙ ap is_lt c.cmp_level.ensures
    ∙ is_lt-int_cmp (p.level.n *ℤ q.level.d) (q.level.n *ℤ p.level.d) ∙ sym s
