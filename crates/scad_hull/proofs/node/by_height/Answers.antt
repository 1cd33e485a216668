-- Points in the order of their nodes.
use Rattle.std.proofs.Common.{map, ap, ◌∙◌, sym, subst}
use Rattle.std.specs.List.Sorted.{IsStrictlySortedBy}
use Rattle.scad_hull.specs.Distinct.{distinct}
use Rattle.scad_hull.specs.Space.{space_cmp}
use Rattle.scad_hull.specs.Node.{point_of}
use Rattle.scad_hull.proofs.Orders.{node_cmp, nodes_same, nodes_sorted}
use Rattle.scad_hull.proofs.node.by_height.Goals as goal

pub returns-clause-value : goal.returns-clause-value
returns-clause-value c =
    c.in_ok-all.ensures
    ∙ ap (map point_of) (c.as_slice-2.ensures.value ∙ c.in_ok-sorted.ensures.value
    ∙ ap (distinct node_cmp) (c.as_slice.ensures.value ∙ c.in_ok-nodes.ensures)) ∙ nodes_same c.args.points.now

pub returns-clause-ordered : goal.returns-clause-ordered
returns-clause-ordered c =
    subst (IsStrictlySortedBy space_cmp) (ap (map point_of) (sym c.as_slice-2.ensures.value)
    ∙ sym c.in_ok-all.ensures) (nodes_sorted c.in_ok-sorted.sorted.items c.in_ok-sorted.ensures.ordered)
