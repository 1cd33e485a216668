use Rattle.std.proofs.Common.{◌≡◌, true, false, rules, pos, ◌+ℤ◌, ◌-ℤ◌}
use Rattle.std.specs.Prelude.{int_le, ◌&&◌}
use Rattle.scad_geom.specs.Line.{low, high}
use Rattle.scad_geom.proofs.Casts.{casts}
use Rattle.plan_support.specs.Near.{IsReach}
use Rattle.plan_support.proofs.NearEdge.{near_some, near_none}
use Rattle.plan_support.proofs.near.near.Goals as goal

pub returns-then-is_beside : goal.returns-then-is_beside
returns-then-is_beside c =
    let e = c.args.e.now in
    let y = c.args.y in
    let gap = c.args.gap in
    let b : (int_le ((low e).y -ℤ pos gap) y && int_le y ((high e).y +ℤ pos gap)) ≡ true = search (rules, casts) in
    let w : IsReach e y gap c.reached.result = search (rules, casts) in
    near_some e y gap c.reached.result c.clipped.result b w c.clipped.ensures

pub returns-else-is_beside : goal.returns-else-is_beside
returns-else-is_beside c =
    let e = c.args.e.now in
    let y = c.args.y in
    let gap = c.args.gap in
    let b : (int_le ((low e).y -ℤ pos gap) y && int_le y ((high e).y +ℤ pos gap)) ≡ false = search (rules, casts) in
    near_none e y gap b
