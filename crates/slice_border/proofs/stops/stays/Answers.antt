-- The last stop stays, and one that lies to the left of the next.
use Rattle.std.proofs.Common.{◌+◌, ◌<◌, suc, length, sym, ap, ap₂, ◌∙◌, arith, add-one, eq-eqb}
use Rattle.std.specs.Ordering.{is_lt}
use Rattle.std.specs.Prelude.{pos, ◌*ℤ◌}
use Rattle.scad_base.proofs.Tests.{is_lt-int_cmp}
use Rattle.slice_border.specs.declared.stop.Stop.{Stop}
use Rattle.slice_border.specs.Stops.{is_left}
use Rattle.slice_events.proofs.Repeats.{stays_last, stays_next}
use Rattle.slice_border.proofs.stops.stays.Goals as goal

pub returns-then-i-stops : goal.returns-then-i-stops
returns-then-i-stops c = eq-eqb (c.args.i + 1) (length c.args.stops.now) c.if-i-stops.true ∙ sym
    (stays_last is_left (λ (s : Stop). s.spot) c.args.stops.now c.args.i c.if-i-stops.true)

pub returns-else-i-stops : goal.returns-else-i-stops
returns-else-i-stops c =
    let h = c.if-i-stops.false in
    let s : Stop = c.index-stops-i.result in
    let t : Stop = c.index-stops-i-else-i-stops.result in
    let there : suc c.args.i < length c.args.stops.now = omega (arith, c.requires) in
    let e = rw (← add-one) at (stays_next is_left (λ (s : Stop). s.spot) c.args.stops.now c.args.i s t there) in
    c.is_lt.ensures ∙ ap is_lt c.compare.ensures ∙ is_lt-int_cmp (s.spot.x *ℤ pos t.spot.run)
    (t.spot.x *ℤ pos s.spot.run)
    ∙ ap₂ (λ (s t : Stop). is_left s.spot t.spot) c.index-stops-i.is c.index-stops-i-else-i-stops.is ∙ sym e
