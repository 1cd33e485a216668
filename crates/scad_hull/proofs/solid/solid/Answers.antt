-- The faces in order make the solid of the definition.
use Rattle.std.proofs.Common.{◌≡◌, true, map, ap, ◌∙◌}
use Rattle.std.specs.List.{flat_map}
use Rattle.scad_solid.specs.Solid.{fan}
use Rattle.scad_hull.specs.Distinct.{distinct}
use Rattle.scad_hull.specs.Node.{point_of}
use Rattle.scad_hull.specs.Faces.{are_flat, face_cmp, IsFaceOf, IsSpread}
use Rattle.scad_hull.specs.Wrapping.{rings_of}
use Rattle.scad_hull.proofs.Options.{at_some, at_none}
use Rattle.scad_hull.proofs.Solids.{none_told, solid_is, solid_there, solid_told}
use Rattle.scad_hull.proofs.solid.solid.Goals as goal

pub returns-in_default : goal.returns-in_default
returns-in_default c =
    none_told c.args.points.now
    (at_none (are_flat c.args.points.now ≡ true) c.in_ok-first.field-0 (λ x e. c.in_default.not-Some x e)
    c.in_ok-first.ensures.none)

pub wrap-requires-clause-face : goal.wrap-requires-clause-face
wrap-requires-clause-face c =
    at_some (IsFaceOf c.args.points.now) c.in_ok-first.field-0 c.in-Some.first c.in-Some.is c.in_ok-first.ensures.some

pub from_closed-requires : goal.from_closed-requires
from_closed-requires c =
    solid_there c.args.points.now c.requires.sorted c.requires.range
    (at_some (λ f. IsSpread c.args.points.now) c.in_ok-first.field-0 c.in-Some.first c.in-Some.is
    c.in_ok-first.ensures.spread)
    (rings_of c.in_ok-faces.faces.items) c.in_ok-faces.ensures c.in_ok-rings.rings.items
    c.in_ok-triangles.triangles.items
    (c.in_ok-rings.ensures ∙ ap (λ fs. distinct face_cmp (rings_of fs)) c.as_slice-2.ensures.value)
    (c.in_ok-triangles.ensures ∙ ap (λ rs. flat_map (λ r. fan (map point_of r.items)) rs)
    c.as_slice-3.ensures.value)

pub returns : goal.returns
returns c =
    let spread = at_some (λ f. IsSpread c.args.points.now) c.in_ok-first.field-0 c.in-Some.first c.in-Some.is c.in_ok-first.ensures.spread in
    solid_told c.args.points.now c.requires.sorted c.requires.range spread c.from_closed.result
    (c.from_closed.ensures ∙ solid_is c.args.points.now c.requires.sorted c.requires.range spread
    (rings_of c.in_ok-faces.faces.items) c.in_ok-faces.ensures c.in_ok-rings.rings.items
    c.in_ok-triangles.triangles.items
    (c.in_ok-rings.ensures ∙ ap (λ fs. distinct face_cmp (rings_of fs)) c.as_slice-2.ensures.value)
    (c.in_ok-triangles.ensures ∙ ap (λ rs. flat_map (λ r. fan (map point_of r.items)) rs)
    c.as_slice-3.ensures.value))
