use Rattle.std.proofs.Common.{◌≡◌, [], ◌∷◌, ap₂, ◌∙◌, pos, get_or, rules}
use Rattle.scad_geom.specs.declared.point.Pt.{Pt}
use Rattle.scad_geom.proofs.Casts.{casts}
use Rattle.plan_infill.specs.declared.run.Run.{Run}
use Rattle.plan_infill.specs.Runs.{point_on}
use Rattle.plan_layer.specs.Infill.{backwards}
use Rattle.plan_layer.proofs.ListPushes.{pushed_next}
use Rattle.plan_layer.proofs.infill_paths.push_backwards.Goals as goal

no_run : Run
no_run = record { from = pos 0; to = pos 0 }

pub runs-preserved : goal.runs-preserved
unfolding no_run
runs-preserved c =
    let first : c.point_on.result ≡ point_on c.args.line (get_or c.args.runs.now c.runs.run-index no_run).to =
    search (rules, casts) in
    let last : c.point_on-in-runs.result ≡ point_on c.args.line (get_or c.args.runs.now c.runs.run-index no_run).from =
    search (rules, casts) in
    pushed_next (backwards c.args.line) c.args.runs.now c.runs.run-index no_run c.runs.paths.items c.push.new.self.items
    _ c.in_ok-way.field-0
    c.runs-test.true c.in_ok-push.ensures.items (c.in_ok-way.ensures ∙ ap₂ (λ (p q : Pt). p ∷ q ∷ []) first last)
    c.runs.invariant
