-- What the members that are left hold decides what all hold.
use Rattle.std.proofs.Common.{◌≡◌, drop}
use Rattle.scad_geom.specs.Half.{meant}
use Rattle.scad_solid.specs.Cut.{plane_of, contains}
use Rattle.scad_tree.specs.Member.{some_hold, all_hold}
use Rattle.scad_tree.specs.Solid.{members}
use Rattle.scad_tree.specs.View.{solids}
use Rattle.scad_tree.proofs.inside.+inside.Given as goal

abbrev pub invariant-all_hold-nodes : goal.invariant-all_hold-nodes
invariant-all_hold-nodes l = all_hold (λ ts. contains (plane_of l.at.layer l.at.height) ts (meant l.at.half l.at.point))
    (members (solids l.nodes)) ≡ all_hold (λ ts. contains (plane_of l.at.layer l.at.height) ts
    (meant l.at.half l.at.point)) (members (solids (drop l.node-index l.nodes)))

abbrev pub invariant-any_holds-nodes : goal.invariant-any_holds-nodes
invariant-any_holds-nodes l = some_hold (λ ts. contains (plane_of l.at.layer l.at.height) ts
    (meant l.at.half l.at.point)) (members (solids l.nodes))
    ≡ some_hold (λ ts. contains (plane_of l.at.layer l.at.height) ts (meant l.at.half l.at.point))
    (members (solids (drop l.node-index l.nodes)))
