use Rattle.std.proofs.Common.{◌≡◌, ◌++◌, get_or, map, take, pos, rules}
use Rattle.std.proofs.lemmas.Int.{to_z-of_z}
use Rattle.scad_geom.proofs.Casts.{casts}
use Rattle.plan_infill.specs.declared.run.Run.{Run}
use Rattle.plan_support.specs.Supports.{leftwards}
use Rattle.plan_support.proofs.ListPushes.{pushed_next}
use Rattle.plan_support.proofs.support.push_leftwards.Goals as goal

no_run : Run
no_run = record { from = pos 0; to = pos 0 }

pub runs-preserved : goal.runs-preserved
unfolding no_run
runs-preserved c =
    let y_fits = c.ranges.y in
    let runs = c.args.runs.now in
    let kept : c.runs.paths.items ≡ c.args.paths.now.items ++ map (leftwards c.args.y) (take c.runs.run-index runs) =
    simp to_z-of_z at c.runs.invariant in
    let made : c.in_ok-way.field-0 ≡ leftwards c.args.y (get_or runs c.runs.run-index no_run) = search (rules, casts) in
    simp to_z-of_z (pushed_next (leftwards c.args.y) runs c.runs.run-index no_run c.args.paths.now.items c.runs.paths.items
    c.push.new.self.items c.in_ok-way.field-0 c.runs-test.true c.in_ok-push.ensures.items made kept)
