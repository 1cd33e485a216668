use Rattle.std.proofs.Common.{◌≡◌, rules, true, false, sym, subst, [], ℤ}
use Rattle.std.proofs.lemmas.Int.{to_z-of_z}
use Rattle.std.proofs.lemmas.List.{append-nil}
use Rattle.scad_geom.proofs.Casts.{casts}
use Rattle.plan_infill.specs.Reach.{is_beside, IsReached}
use Rattle.plan_infill.proofs.RowReach.{near_steps, no_near_steps}
use Rattle.plan_infill.proofs.near_steps.push_on_row.Goals as goal
use mir.Syntax.{w32}

pub returns-in_ok-push_stretch : goal.returns-in_ok-push_stretch
returns-in_ok-push_stretch c =
    let h : is_beside c.args.c c.args.y c.args.e.now ≡ true = search (rules, casts) in
    let r = subst (λ (y : ℤ). IsReached c.args.c y c.args.e.now c.reached.result) (to_z-of_z w32 c.args.y c.ranges.y) c.reached.ensures in
    let k = c.in_ok-push_stretch.ensures in
    (k.0, near_steps c.args.c c.args.y c.args.e.now c.reached.result k.0 h r k.1, k.2)

pub returns-else-is_beside : goal.returns-else-is_beside
returns-else-is_beside c =
    let h : is_beside c.args.c c.args.y c.args.e.now ≡ false = search (rules, casts) in
    ([], no_near_steps c.args.c c.args.y c.args.e.now h, sym (append-nil c.args.steps.now.items))
