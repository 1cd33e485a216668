-- Each leaf is closed, and its edges are in range.
use Rattle.std.proofs.Common.{List, sym, subst, ◌∙◌}
use Rattle.std.specs.Prelude.{All}
use Rattle.scad_geom.specs.declared.level.LeafEdge.{LeafEdge}
use Rattle.scad_geom.specs.Limits.{coordinate_limit}
use Rattle.scad_geom.specs.Leaves.{AreLeavesBalanced}
use Rattle.scad_geom.specs.Within.{IsEdgeWithin}
use Rattle.plan_walls.proofs.Leaves.{leaves_balanced}
use Rattle.plan_walls.proofs.Limits.{edges_within}
use Rattle.plan_walls.proofs.wall_loops.walls_along.Goals as goal

pub outlines-requires-clause-within : goal.outlines-requires-clause-within
outlines-requires-clause-within c =
    subst (λ (es : List LeafEdge). All (λ e. IsEdgeWithin coordinate_limit e.edge) es)
    (sym (c.deref.ensures.value ∙ c.in-Ok.ensures.edges))
    (edges_within c.args.c c.requires.width c.args.around.now c.requires.within)

pub outlines-requires-clause-balanced : goal.outlines-requires-clause-balanced
outlines-requires-clause-balanced c = subst AreLeavesBalanced (sym (c.deref.ensures.value ∙ c.in-Ok.ensures.edges))
    (leaves_balanced c.args.c c.args.around.now c.requires.balanced)
