use Rattle.std.proofs.Common.{◌≡◌, rules, subst, pos, ℤ, ◌<ℤ◌}
use lib.Signed.{◌≤ℤ◌}
use Rattle.std.specs.Int.{int_min, int_max}
use Rattle.std.proofs.lemmas.Int.{to_z-of_z}
use Rattle.scad_geom.specs.Line.{rise}
use Rattle.scad_geom.proofs.Casts.{casts}
use Rattle.plan_infill.specs.Reach.{IsBesideEnds, IsBesideLine, AreThose}
use Rattle.plan_infill.proofs.RowReach.{both_reached, flat_reached}
use Rattle.plan_infill.proofs.near_steps.reached.Goals as goal
use mir.Syntax.{w32}

pub returns-then-rise-gt0 : goal.returns-then-rise-gt0
returns-then-rise-gt0 c =
    let h : pos 0 <ℤ rise c.args.e.now = search (rules, casts) in
    let p : c.both.result.from ≡ int_max c.reached_by_ends-by_ends.result.from c.reached_by_line.result.from = search (rules, casts) in
    let q : c.both.result.until ≡ int_min c.reached_by_ends-by_ends.result.until c.reached_by_line.result.until = search (rules, casts) in
    let e = subst (λ (y : ℤ). AreThose (IsBesideEnds c.args.c y c.args.e.now) c.reached_by_ends-by_ends.result)
    (to_z-of_z w32 c.args.y c.ranges.y) c.reached_by_ends-by_ends.ensures in
    let l = subst (λ (y : ℤ). AreThose (IsBesideLine c.args.c y c.args.e.now) c.reached_by_line.result)
    (to_z-of_z w32 c.args.y c.ranges.y) c.reached_by_line.ensures in
    both_reached c.args.c c.args.y c.args.e.now c.reached_by_ends-by_ends.result c.reached_by_line.result c.both.result
    h
    e l p q

pub returns-else-rise-gt0 : goal.returns-else-rise-gt0
returns-else-rise-gt0 c =
    let h : rise c.args.e.now ≤ℤ pos 0 = search (rules, casts) in
    flat_reached c.args.c c.args.y c.args.e.now c.reached_by_ends-by_ends.result h
    (subst (λ (y : ℤ). AreThose (IsBesideEnds c.args.c y c.args.e.now) c.reached_by_ends-by_ends.result)
    (to_z-of_z w32 c.args.y c.ranges.y) c.reached_by_ends-by_ends.ensures)
