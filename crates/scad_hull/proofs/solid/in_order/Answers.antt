-- One more face goes to its place.
use Rattle.std.proofs.Common.{ap, map, ◌∙◌}
use Rattle.scad_hull.specs.Distinct.{distinct}
use Rattle.scad_hull.specs.Faces.{face_cmp}
use Rattle.scad_hull.specs.Node.{node_of}
use Rattle.scad_hull.specs.Wrapping.{rings_of}
use Rattle.scad_hull.proofs.Sorting.{put_face, on_no_err}
use Rattle.scad_hull.proofs.solid.in_order.Goals as goal

pub faces-preserved : goal.faces-preserved
faces-preserved c =
    put_face c.args.faces.now c.faces.face-index c.face-item.result c.faces-test.true c.face-item.is c.faces.rings.keys
    c.insert.new.self.keys c.in_ok-ring.ring (c.in_ok-ring.ensures ∙ ap (map node_of) c.as_slice.ensures.value)
    (on_no_err c.insert.result c.is_err.result c.is_err.ensures.value c.if-is_err.false c.insert.ensures.keys)
    (distinct face_cmp (rings_of c.args.faces.now)) c.faces.invariant
