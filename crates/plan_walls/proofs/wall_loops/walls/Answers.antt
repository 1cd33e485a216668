-- The sides of the outlines are closed and in range, and so the walls along them keep clear.
use Rattle.std.proofs.Common.{◌≡◌, List, flat_map, sym, subst, ◌∙◌}
use Rattle.std.specs.Prelude.{All}
use Rattle.std.proofs.lemmas.Result.{IfOk-weaker}
use Rattle.scad_geom.specs.declared.point.Edge.{Edge}
use Rattle.scad_geom.specs.Limits.{point_limit}
use Rattle.scad_geom.specs.Within.{IsEdgeWithin}
use Rattle.scad_geom.specs.Segment.{segments}
use Rattle.scad_geom.specs.Balance.{IsBalanced}
use Rattle.scad_geom.specs.Loop.{sides}
use Rattle.plan_sides.proofs.Closure.{sides_balanced}
use Rattle.plan_walls.specs.Walls.{AreWallsAlong}
use Rattle.plan_walls.proofs.Distance.{walls_stay_apart, walls_keep_clear}
use Rattle.plan_sides.proofs.Within.{outlines_within}
use Rattle.plan_walls.proofs.wall_loops.walls.Goals as goal

-- the call saw the sides of the outlines
sides_are : (c : goal.After-deref) → c.deref.result.now ≡ flat_map sides c.args.outlines.now
sides_are c = c.deref.ensures.value ∙ c.in-Ok.ensures

pub walls_along-requires-clause-within : goal.walls_along-requires-clause-within
walls_along-requires-clause-within c = subst (λ (es : List Edge). All (IsEdgeWithin point_limit) es)
    (sym (sides_are c)) (outlines_within point_limit c.args.outlines.now c.requires.within)

pub walls_along-requires-clause-balanced : goal.walls_along-requires-clause-balanced
walls_along-requires-clause-balanced c = subst (λ (es : List Edge). IsBalanced (segments es)) (sym (sides_are c))
    (sides_balanced c.args.outlines.now)

pub returns-in-Ok-clause-apart : goal.returns-in-Ok-clause-apart
returns-in-Ok-clause-apart c =
    IfOk-weaker c.walls_along.result _ _
    (λ v h. walls_stay_apart c.args.c c.args.outlines.now v.items c.requires.positive
    (subst (λ (es : List Edge). AreWallsAlong c.args.c es v.items) (c.deref.ensures.value ∙ c.in-Ok.ensures) h))
    c.walls_along.ensures.walls

pub returns-in-Ok-clause-clear : goal.returns-in-Ok-clause-clear
returns-in-Ok-clause-clear c two =
    IfOk-weaker c.walls_along.result _ _
    (λ v h. walls_keep_clear c.args.c c.args.outlines.now v.items two
    (subst (λ (es : List Edge). AreWallsAlong c.args.c es v.items) (c.deref.ensures.value ∙ c.in-Ok.ensures) h))
    c.walls_along.ensures.walls
