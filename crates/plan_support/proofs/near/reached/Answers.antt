use Rattle.std.proofs.Common.{◌≡◌, rules, pos, ◌+ℤ◌, ◌-ℤ◌, ◌<ℤ◌}
use Rattle.std.specs.Int.{int_min, int_max}
use Rattle.scad_geom.specs.Line.{low, high, rise, x_at}
use Rattle.scad_geom.proofs.Casts.{casts}
use Rattle.plan_infill.specs.Quotient.{IsFloor, IsCeiling}
use Rattle.plan_support.specs.Near.{line_reach}
use Rattle.plan_support.proofs.EdgeReach.{within_ends, within_both}
use Rattle.plan_support.proofs.near.reached.Goals as goal

pub returns-then-rise-gt0 : goal.returns-then-rise-gt0
returns-then-rise-gt0 c =
    let e = c.args.e.now in
    let y = c.args.y in
    let gap = c.args.gap in
    let ends = c.reached_by_ends-by_ends.result in
    let line = c.reached_by_line.result in
    let from : ends.from ≡ int_min (low e).x (high e).x -ℤ pos gap = search (rules, casts) in
    let to : ends.to ≡ int_max (low e).x (high e).x +ℤ pos gap = search (rules, casts) in
    let rises : pos 0 <ℤ rise e = search (rules, casts) in
    let f : IsCeiling (x_at e y (pos 1) -ℤ line_reach e gap) (rise e) line.from = search (rules, casts) in
    let t : IsFloor (x_at e y (pos 1) +ℤ line_reach e gap) (rise e) line.to = search (rules, casts) in
    within_both e y gap ends from to line c.both.result rises f t c.both.ensures.from c.both.ensures.to

pub returns-else-rise-gt0 : goal.returns-else-rise-gt0
returns-else-rise-gt0 c =
    let e = c.args.e.now in
    let y = c.args.y in
    let gap = c.args.gap in
    let ends = c.reached_by_ends-by_ends.result in
    let from : ends.from ≡ int_min (low e).x (high e).x -ℤ pos gap = search (rules, casts) in
    let to : ends.to ≡ int_max (low e).x (high e).x +ℤ pos gap = search (rules, casts) in
    within_ends e y gap ends from to (λ r. search (rules, casts))
