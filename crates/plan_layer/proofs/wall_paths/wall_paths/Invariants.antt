use Rattle.plan_layer.proofs.WallPaths.{Walled}
use Rattle.plan_layer.proofs.wall_paths.wall_paths.Given as goal

abbrev pub invariant-walls : goal.invariant-walls
invariant-walls l = Walled l.outlines l.settings.line_width l.wall l.paths.items
