-- One more fan, and all of them.
use Rattle.std.proofs.Common.{◌++◌, map, sym, ap, ◌∙◌}
use Rattle.std.proofs.lemmas.List.{append-nil, at_drop_all}
use Rattle.std.specs.List.{flat_map}
use Rattle.scad_solid.specs.Solid.{fan}
use Rattle.scad_hull.specs.Node.{point_of}
use Rattle.scad_hull.proofs.Sorting.{put_fan}
use Rattle.scad_hull.proofs.solid.fans.Goals as goal

pub rings-preserved : goal.rings-preserved
rings-preserved c =
    put_fan c.args.rings.now c.rings.ring-index c.ring-item.result c.rings-test.true c.ring-item.is
    c.rings.triangles.items
    c.push_fan.new.out.items c.as_slice-in-rings.result.now
    (c.as_slice-in-rings.ensures.value ∙ c.in_ok-corners.ensures ∙ ap (map point_of) c.as_slice.ensures.value)
    c.in_ok-push_fan.ensures (flat_map (λ r. fan (map point_of r.items)) c.args.rings.now) c.rings.invariant

pub rings-init : goal.rings-init
rings-init c =
    ap (λ ts. ts ++ flat_map (λ r. fan (map point_of r.items)) c.args.rings.now) c.new-triangles.ensures.items

pub returns : goal.returns
returns c =
    sym (append-nil c.rings.triangles.items)
    ∙ sym (at_drop_all (λ rings. c.rings.triangles.items ++ flat_map (λ r. fan (map point_of r.items)) rings)
    c.args.rings.now c.rings.ring-index c.rings-test.false)
    ∙ c.rings.invariant
