-- The rings are those of the sphere, and in range.
use Rattle.std.proofs.Common.{ap, ◌∙◌}
use Rattle.scad_solid.specs.Stack.{are_alike, rings_in_range}
use Rattle.scad_shapes.proofs.Solids.{alike-sphere}
use Rattle.scad_shapes.proofs.Stacks.{solid_is, solid_counts}
use Rattle.scad_shapes.proofs.TriangleCount.{sphere_count}
use Rattle.scad_shapes.proofs.spheres.sphere.Goals as goal

pub solid-requires-clause-alike : goal.solid-requires-clause-alike
solid-requires-clause-alike c =
    ap are_alike (c.as_slice.ensures.value ∙ c.in_ok-rings.ensures.0) ∙ alike-sphere c.args.r c.args.n c.args.m.now

pub solid-requires-clause-in_range : goal.solid-requires-clause-in_range
solid-requires-clause-in_range c =
    ap rings_in_range (c.as_slice.ensures.value ∙ c.in_ok-rings.ensures.0) ∙ c.in_ok-rings.ensures.1

pub returns-clause-solid : goal.returns-clause-solid
returns-clause-solid c =
    solid_is c.solid.result _ _ (c.as_slice.ensures.value ∙ c.in_ok-rings.ensures.0) c.solid.ensures
    c.in_ok-rings.ensures.1

pub returns-clause-count : goal.returns-clause-count
returns-clause-count c =
    solid_counts c.solid.result _ _ _ (c.as_slice.ensures.value ∙ c.in_ok-rings.ensures.0) c.solid.ensures
    (sphere_count c.args.r c.args.n c.args.m.now c.requires.some)
