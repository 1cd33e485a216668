use Rattle.std.proofs.Common.{◌≡◌, ◌≤◌, ◌+◌, ℕ, List, ◌++◌, length, map, sym, subst, ◌∙◌, ap}
use Rattle.std.proofs.lemmas.Result.{err_from_is_err_and}
use Rattle.scad_geom.specs.declared.point.Pt.{Pt}
use Rattle.slice_events.specs.Limits.{crossing_limit}
use Rattle.slice_events.specs.Levels.{crossings}
use Rattle.plan_walls.specs.Walls.{wall_edges, AreWalls}
use Rattle.plan_layer.specs.Plan.{distance, round}
use Rattle.plan_walls.specs.Refusal.{wall_edge_limit, IsRefusal}
use Rattle.plan_layer.proofs.WallPaths.{Walled, walled_none, walled_more, wall_refused}
use Rattle.plan_layer.proofs.wall_paths.wall_paths.Goals as goal

pub walls-preserved : goal.walls-preserved
walls-preserved c =
    let outlines : List (List Pt) = c.args.outlines.now in
    let loops : List (List Pt) = c.in_ok-loops.loops.items in
    let at : c.distance.result ≡ distance c.args.settings.now.line_width c.walls.wall = c.distance.ensures.value in
    let pushed : c.push_rounds.new.paths.items ≡ c.walls.paths.items ++ map round loops =
    c.in_ok-push_rounds.ensures ∙ ap (λ (ls : List (List Pt)). c.walls.paths.items ++ map round ls)
    c.deref.ensures.value in
    subst (λ (ps : List (List Pt)). Walled outlines c.args.settings.now.line_width (c.walls.wall + 1) ps) (sym pushed)
    (walled_more outlines c.args.settings.now.line_width c.walls.wall c.walls.paths.items loops c.walls.invariant
    (subst (λ (d : ℕ). AreWalls d outlines loops) at c.in_ok-loops.ensures.walls)
    (subst (λ (d : ℕ). length (wall_edges d outlines) ≤ wall_edge_limit) at c.in_ok-loops.ensures.few)
    (subst (λ (d : ℕ). crossings (wall_edges d outlines) ≤ crossing_limit) at c.in_ok-loops.ensures.accepted))

pub walls-init : goal.walls-init
walls-init c =
    subst (Walled c.args.outlines.now c.args.settings.now.line_width 0) (sym c.new-paths.ensures.items)
    (walled_none c.args.outlines.now c.args.settings.now.line_width)

pub returns-in_err-loops-clause-refused : goal.returns-in_err-loops-clause-refused
returns-in_err-loops-clause-refused c =
    let outlines : List (List Pt) = c.args.outlines.now in
    let p = err_from_is_err_and c.from_residual.result c.from_residual.ensures.1 in
    rw (p.1, p.2) (wall_refused outlines c.args.settings.now c.walls.wall c.in_err-loops.field-0.0 c.walls-test.true
    c.walls.invariant.accepted
    (subst (λ (d : ℕ). IsRefusal (length (wall_edges d outlines)) wall_edge_limit (crossings (wall_edges d outlines))
    c.in_err-loops.field-0.0) c.distance.ensures.value c.in_err-loops.ensures.refused))

pub returns-in_err-push_rounds-clause-refused : goal.returns-in_err-push_rounds-clause-refused
returns-in_err-push_rounds-clause-refused c =
    let p = err_from_is_err_and c.from_residual-in_err-push_rounds.result
    c.from_residual-in_err-push_rounds.ensures.1 in
    rw (p.1, p.2) tt
