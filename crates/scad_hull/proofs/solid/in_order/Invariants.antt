-- The rings so far, and those of the faces left put to them, are all.
use Rattle.std.proofs.Common.{◌≡◌, drop, map}
use Rattle.scad_hull.specs.Distinct.{distinct, with_all}
use Rattle.scad_hull.specs.Node.{point_of}
use Rattle.scad_hull.specs.Faces.{face_cmp}
use Rattle.scad_hull.specs.Wrapping.{rings_of}
use Rattle.scad_hull.proofs.solid.in_order.Given as goal

abbrev pub invariant-faces : goal.invariant-faces
invariant-faces l = with_all face_cmp (map (λ r. map point_of r.items) l.rings.keys)
    (rings_of (drop l.face-index l.faces))
    ≡ distinct face_cmp (rings_of l.fn.faces)
