-- The line with the runs that were found, and nothing where there are none.
use Rattle.std.proofs.Common.{◌≡◌, subst, rules}
use Rattle.scad_geom.proofs.Casts.{casts}
use Rattle.plan_infill.specs.declared.line.Line.{Line}
use Rattle.plan_infill.specs.Runs.{AreRuns}
use Rattle.plan_layer.specs.Infill.{line_at, depth}
use Rattle.plan_layer.proofs.lines.push_filled.Goals as goal

pub returns-in_ok-push : goal.returns-in_ok-push
returns-in_ok-push c =
    let s = c.args.settings.now in
    let found = c.in_ok-found.found.items in
    let line : c.line_at-line.result ≡ line_at c.args.layer c.args.at = search (rules, casts) in
    let are = subst (λ (l : Line). AreRuns c.args.outlines.now (depth s) l s.line_width found) line
    c.in_ok-found.ensures in
    record { runs = found; are_runs = are; added = search (rules, casts) }

pub returns-else-not-is_empty : goal.returns-else-not-is_empty
returns-else-not-is_empty c =
    let s = c.args.settings.now in
    let found = c.in_ok-found.found.items in
    let line : c.line_at-line.result ≡ line_at c.args.layer c.args.at = search (rules, casts) in
    let are = subst (λ (l : Line). AreRuns c.args.outlines.now (depth s) l s.line_width found) line
    c.in_ok-found.ensures in
    record { runs = found; are_runs = are; added = search (rules, casts) }
