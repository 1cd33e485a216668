use Rattle.std.proofs.Common.{◌≡◌, ◌++◌, get_or, ap, ap₂, ◌∙◌, rules, List}
use Rattle.scad_geom.proofs.Casts.{casts}
use Rattle.plan_infill.specs.declared.line.Line.{Line}
use Rattle.plan_infill.specs.declared.run.Run.{Run}
use Rattle.plan_layer.specs.Infill.{LineRuns, line_at, line_paths}
use Rattle.plan_layer.proofs.ListPushes.{infill_next}
use Rattle.plan_layer.proofs.infill_paths.push_infill.Goals as goal

pub lines-preserved : goal.lines-preserved
lines-preserved c =
    let out = c.lines.paths.items in
    let up = c.lines.upwards in
    let filled = c.filled-item.result in
    let line : c.line_at-line.result ≡ line_at c.args.layer filled.at = search (rules, casts) in
    let here = get_or c.args.lines.now c.lines.filled-index filled in
    let is : filled ≡ here = c.filled-item.is in
    infill_next c.args.layer up c.args.lines.now c.lines.filled-index filled out _ _ c.lines-test.true
    (c.in_ok-push_line.ensures
    ∙ ap₂ (λ (l : Line) (rs : List Run). out ++ line_paths up l rs)
    (line ∙ ap (λ (f : LineRuns). line_at c.args.layer f.at) is) (c.runs.ensures ∙ ap (λ (f : LineRuns). f.runs) is))
    c.lines.invariant
